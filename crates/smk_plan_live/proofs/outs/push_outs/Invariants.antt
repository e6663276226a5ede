use Rattle.std.proofs.Common.{◌≡◌, ◌++◌, take}
use Rattle.smk_plan_live.proofs.outs.push_outs.Given as goal

abbrev pub invariant-loop-out : goal.invariant-loop-out
invariant-loop-out l = l.found ≡ l.initial.found ++ take l.out-index l.outs
