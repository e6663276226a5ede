use Rattle.std.proofs.Common.{◌≡◌, ◌||◌, ℕ, List, map, length}
use Rattle.smk_world.specs.World.{is_named}
use Rattle.smk_world_crash.proofs.reaches.add_left.Given as goal

abbrev pub invariant-loop-rest : goal.invariant-loop-rest
invariant-loop-rest l = (q : List ℕ) → (is_named q l.names || is_named q (map (λ c. c.place) l.rest)) ≡ (is_named q l.fn.names || is_named q (map (λ c. c.place) l.left))

abbrev pub decreases-loop-rest : goal.decreases-loop-rest
decreases-loop-rest l = length l.rest
