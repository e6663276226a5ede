use Rattle.std.proofs.Common.{◌≡◌, take}
use Rattle.smk_plan_states.proofs.reasons.reasons_again.Given as goal

abbrev pub invariant-loop-reason : goal.invariant-loop-reason
invariant-loop-reason l = l.copy ≡ take l.reason-index l.reasons
