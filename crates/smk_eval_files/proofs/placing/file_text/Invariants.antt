use Rattle.std.proofs.Common.{◌≡◌, ◌++◌, drop}
use Rattle.smk_eval_files.specs.Texts.{text, after}
use Rattle.smk_eval_files.specs.Placing.{entries, waiting}
use Rattle.smk_eval_files.proofs.placing.file_text.Given as goal

abbrev pub invariant-loop-statement : goal.invariant-loop-statement
invariant-loop-statement l = record {
  text : entries l.made.items ++ text l.file.file (drop l.statement-index l.statement-items) (waiting l.later) ≡ text l.file.file l.file.syntax.statements (waiting l.fn.later);
  later : after (drop l.statement-index l.statement-items) (waiting l.later) ≡ after l.file.syntax.statements (waiting l.fn.later);
}
