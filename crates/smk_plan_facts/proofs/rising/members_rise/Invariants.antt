use Rattle.std.proofs.Common.{◌≡◌, length}
use Rattle.smk_record.specs.Records.{are_rising}
use Rattle.smk_plan_facts.specs.Telling.{member_names}
use Rattle.smk_plan_facts.proofs.rising.members_rise.Given as goal

abbrev pub invariant-loop-rest : goal.invariant-loop-rest
invariant-loop-rest l = are_rising (member_names l.rest) ≡ are_rising (member_names l.members)

abbrev pub decreases-loop-rest : goal.decreases-loop-rest
decreases-loop-rest l = length l.rest
