use Rattle.std.proofs.Common.{◌≡◌, drop}
use Rattle.std.specs.List.{list_all}
use Rattle.smk_record.specs.Records.{is_in_format}
use Rattle.smk_record.proofs.valid.are_in_format.Given as goal

abbrev pub invariant-loop-stamp : goal.invariant-loop-stamp
invariant-loop-stamp l = list_all (is_in_format l.format) (drop l.stamp-index l.stamps) ≡ list_all (is_in_format l.format) l.stamps
