use Rattle.std.proofs.Common.{◌≡◌, take}
use Rattle.smk_plan_facts.proofs.copies.members_again.Given as goal

abbrev pub invariant-loop-member : goal.invariant-loop-member
invariant-loop-member l = l.copy ≡ take l.member-index l.members
