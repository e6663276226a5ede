use Rattle.std.proofs.Common.{◌≡◌, drop}
use Rattle.std.specs.Cmp.Lexicographic.{pointwise}
use Rattle.smk_record.specs.Records.{same_member}
use Rattle.smk_plan_facts.proofs.directories.are_same.Given as goal

abbrev pub invariant-loop-member : goal.invariant-loop-member
invariant-loop-member l = pointwise same_member l.members l.others ≡ pointwise same_member (drop l.member-index l.members) l.rest
