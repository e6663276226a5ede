use Rattle.std.proofs.Common.{◌≡◌, take, not}
use Rattle.std.specs.Prelude.{nat_eq}
use Rattle.std.specs.List.{filter}
use Rattle.smk_world_crash.proofs.children.others.Given as goal

abbrev pub invariant-loop-child : goal.invariant-loop-child
invariant-loop-child l = l.left ≡ filter (λ c. not (nat_eq c.number l.number)) (take l.child-index l.child-items)
