use Rattle.std.proofs.Common.{◌≡◌, ◌++◌, take, map}
use Rattle.smk_world_crash.proofs.children.push_outs.Given as goal

abbrev pub invariant-loop-out : goal.invariant-loop-out
invariant-loop-out l = l.paths ≡ l.fn.paths ++ map (λ out. out.path) (take l.out-index l.out-items)
