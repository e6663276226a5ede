use Rattle.std.proofs.Common.{◌≡◌, ◌+◌, drop}
use Rattle.smk_eval_values.specs.Letters.{name_len}
use Rattle.smk_eval_values.proofs.reading.name_len.Given as goal

abbrev pub invariant-loop-i : goal.invariant-loop-i
invariant-loop-i l = name_len l.text ≡ l.i + name_len (drop l.i l.text)
