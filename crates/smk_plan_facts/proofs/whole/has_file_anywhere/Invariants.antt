use Rattle.std.proofs.Common.{◌≡◌, drop}
use Rattle.smk_plan_facts.specs.Telling.{is_file_member}
use Rattle.smk_plan_facts.proofs.whole.has_file_anywhere.Given as goal

abbrev pub invariant-loop-member : goal.invariant-loop-member
invariant-loop-member l = is_file_member l.members l.name ≡ is_file_member (drop l.member-index l.members) l.name
