use Rattle.std.proofs.Common.{◌≡◌, ◌||◌, ℕ, List, drop}
use Rattle.smk_world.specs.Trees.{among}
use Rattle.smk_plan_states.specs.Keys.{has_key}
use Rattle.smk_plan_states.proofs.ways.put_all.Given as goal

abbrev pub invariant-loop-path : goal.invariant-loop-path
invariant-loop-path l = (q : List ℕ) → (has_key l.keys q || among (drop l.path-index l.paths) q) ≡ (has_key l.initial.keys q || among l.paths q)
