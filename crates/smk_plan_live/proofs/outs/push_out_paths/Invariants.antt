use Rattle.std.proofs.Common.{◌≡◌, ◌++◌, map, take}
use Rattle.smk_plan_live.specs.Sites.{out_path}
use Rattle.smk_plan_live.proofs.outs.push_out_paths.Given as goal

abbrev pub invariant-loop-out : goal.invariant-loop-out
invariant-loop-out l = l.found ≡ l.initial.found ++ map out_path (take l.out-index l.outs)
