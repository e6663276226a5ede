use Rattle.std.proofs.Common.{◌≡◌, ◌||◌, ℕ, List, drop}
use Rattle.std.specs.BTreeSet.{contains_text}
use Rattle.smk_world.specs.Trees.{among}
use Rattle.smk_plan_facts.proofs.forced.add_above.Given as goal

abbrev pub invariant-loop-folder : goal.invariant-loop-folder
invariant-loop-folder l = (q : List ℕ) → (among (drop l.folder-index l.folder-items) q || contains_text l.set q) ≡ (among l.folder-items q || contains_text l.initial.set q)
