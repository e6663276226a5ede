use Rattle.std.proofs.Common.{◌≡◌, drop}
use Rattle.smk_trigger.specs.Reasons.{lacks_record}
use Rattle.smk_trigger.proofs.kept.lacks_record.Given as goal

abbrev pub invariant-loop-one : goal.invariant-loop-one
invariant-loop-one l = lacks_record l.kept ≡ lacks_record (drop l.one-index l.kept)
