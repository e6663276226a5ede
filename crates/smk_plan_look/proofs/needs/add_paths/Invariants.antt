use Rattle.std.proofs.Common.{◌≡◌, ◌||◌, ℕ, List, drop}
use Rattle.std.specs.BTreeSet.{contains_text}
use Rattle.std.specs.List.{list_any}
use Rattle.smk_plan_look.specs.Needs.{is_due}
use Rattle.smk_plan_look.proofs.needs.add_paths.Given as goal

abbrev pub invariant-loop-path : goal.invariant-loop-path
invariant-loop-path l = (q : List ℕ) →
    (contains_text l.needed q || list_any (is_due l.store (contains_text l.touched) q) (drop l.path-index l.paths)) ≡ (list_any (is_due l.store (contains_text l.touched) q) l.paths || contains_text l.initial.needed q)
