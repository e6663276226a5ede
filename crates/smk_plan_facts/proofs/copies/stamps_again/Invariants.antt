use Rattle.std.proofs.Common.{◌≡◌, take}
use Rattle.smk_plan_facts.proofs.copies.stamps_again.Given as goal

abbrev pub invariant-loop-stamp : goal.invariant-loop-stamp
invariant-loop-stamp l = l.copy ≡ take l.stamp-index l.stamps
