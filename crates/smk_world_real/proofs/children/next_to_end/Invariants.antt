use Rattle.std.proofs.Common.{◌≡◌, map}
use Rattle.smk_world_real.proofs.children.next_to_end.Given as goal

abbrev pub invariant-loop : goal.invariant-loop
invariant-loop g l = map (λ c. c.number) l.children ≡ map (λ c. c.number) l.initial.children
