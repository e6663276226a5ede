use Rattle.std.proofs.Common.{◌≡◌, ◌||◌, ℕ, List, drop}
use Rattle.std.specs.List.{list_any}
use Rattle.std.specs.BTreeSet.{contains_text}
use Rattle.smk_base.specs.Path.{is_under}
use Rattle.smk_plan_facts.proofs.forced.all_above.Given as goal

abbrev pub invariant-loop-path : goal.invariant-loop-path
invariant-loop-path l = (q : List ℕ) → (list_any (λ t. is_under t q) (drop l.path-index l.path-items) || contains_text l.set q) ≡ list_any (λ t. is_under t q) l.path-items
