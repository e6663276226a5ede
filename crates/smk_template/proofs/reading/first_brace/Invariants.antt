use Rattle.std.proofs.Common.{◌≡◌, ◌+◌, drop}
use Rattle.smk_template.specs.Templates.{first_brace}
use Rattle.smk_template.proofs.reading.first_brace.Given as goal

abbrev pub invariant-loop-i : goal.invariant-loop-i
invariant-loop-i l = first_brace l.text ≡ l.i + first_brace (drop l.i l.text)
