use Rattle.std.proofs.Common.{◌≡◌, ◌+◌, drop}
use Rattle.smk_record.specs.Reading.{digits_len}
use Rattle.smk_record.proofs.bytes.digits_len.Given as goal

abbrev pub invariant-loop-i : goal.invariant-loop-i
invariant-loop-i l = l.i + digits_len (drop l.i l.bytes) ≡ digits_len l.bytes
