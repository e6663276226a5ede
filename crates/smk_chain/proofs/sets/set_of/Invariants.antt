use Rattle.std.proofs.Common.{◌≡◌, ◌||◌, ℕ, List, drop}
use Rattle.std.specs.BTreeSet.{contains_text}
use Rattle.smk_world.specs.Trees.{among}
use Rattle.smk_chain.proofs.sets.set_of.Given as goal

abbrev pub invariant-loop-path : goal.invariant-loop-path
invariant-loop-path l = (q : List ℕ) → (contains_text l.set q || among (drop l.path-index l.paths) q) ≡ among l.paths q
