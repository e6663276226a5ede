-- What the tests for rising members tell.
use Rattle.std.proofs.Common.{◌≡◌, true, not, ◌||◌, List, sym, ap, ◌∙◌}
use Rattle.std.specs.List.{list_all}
use Rattle.smk_world.specs.Trees.{Each}
use Rattle.smk_record.specs.Records.{are_rising}
use Rattle.smk_plan.specs.declared.seen.Sight.{Sight}
use Rattle.smk_plan_facts.specs.declared.directories.Directory.{Directory}
use Rattle.smk_plan_facts.specs.Telling.{are_sorted_in, is_sorted_in, member_names, members_at, IsSorted}
use Rattle.smk_plan_facts.proofs.Tests.{each_of, each_tested}

one_sorted : (sights : List Sight) (d : Directory) → is_sorted_in sights d ≡ true → IsSorted sights d
one_sorted sights d h whole = sym (ap (λ b. not b || are_rising (member_names (members_at sights d.path))) whole) ∙ h

pub each_sorted : (sights : List Sight) (directories : List Directory) → are_sorted_in sights directories ≡ true → Each (IsSorted sights) directories
each_sorted sights directories h =
    each_of (λ d. is_sorted_in sights d ≡ true) (IsSorted sights) (one_sorted sights) directories (each_tested (is_sorted_in sights) directories h)

pub all_sorted : (sights : List Sight) (all : List (List Directory)) → list_all (are_sorted_in sights) all ≡ true → Each (Each (IsSorted sights)) all
all_sorted sights all h =
    each_of (λ ds. are_sorted_in sights ds ≡ true) (Each (IsSorted sights)) (each_sorted sights) all (each_tested (are_sorted_in sights) all h)
