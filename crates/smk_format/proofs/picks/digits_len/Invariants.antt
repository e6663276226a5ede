use Rattle.std.proofs.Common.{◌≡◌, ◌+◌, drop}
use Rattle.smk_format.specs.Fields.{digits_len}
use Rattle.smk_format.proofs.picks.digits_len.Given as goal

abbrev pub invariant-loop-i : goal.invariant-loop-i
invariant-loop-i l = digits_len l.bytes ≡ l.i + digits_len (drop l.i l.bytes)
