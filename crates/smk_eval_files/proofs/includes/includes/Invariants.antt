use Rattle.std.proofs.Common.{◌≡◌, take}
use Rattle.smk_eval_files.specs.Reading.{includes}
use Rattle.smk_eval_files.proofs.includes.includes.Given as goal

abbrev pub invariant-loop-statement : goal.invariant-loop-statement
invariant-loop-statement l = l.texts ≡ includes (take l.statement-index l.statements)
