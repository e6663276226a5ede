use Rattle.std.proofs.Common.{◌≡◌, take}
use Rattle.smk_plan_table.specs.Parts.{files_among}
use Rattle.smk_plan_table.proofs.listings.files_among.Given as goal

abbrev pub invariant-loop-member : goal.invariant-loop-member
invariant-loop-member l = l.found ≡ files_among (take l.member-index l.members)
