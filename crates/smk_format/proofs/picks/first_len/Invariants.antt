use Rattle.std.proofs.Common.{◌≡◌, ◌+◌, drop}
use Rattle.smk_format.specs.Fields.{first_len}
use Rattle.smk_format.proofs.picks.first_len.Given as goal

abbrev pub invariant-loop-i : goal.invariant-loop-i
invariant-loop-i l = first_len l.field ≡ l.i + first_len (drop l.i l.field)
