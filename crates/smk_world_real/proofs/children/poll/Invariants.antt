use Rattle.std.proofs.Common.{◌≡◌, map}
use Rattle.smk_world_real.proofs.children.poll.Given as goal

abbrev pub invariant-loop-i : goal.invariant-loop-i
invariant-loop-i g l = map (λ c. c.number) l.children ≡ map (λ c. c.number) l.initial.children
