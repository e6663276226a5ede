use Rattle.std.proofs.Common.{◌≡◌, ◌++◌, take}
use Rattle.smk_job.proofs.reserve.push_outs.Given as goal

abbrev pub invariant-loop-out : goal.invariant-loop-out
invariant-loop-out l = l.outs ≡ l.initial.outs ++ take l.out-index l.more
