use Rattle.std.proofs.Common.{◌≡◌, ◌++◌, drop, length}
use Rattle.smk_eval_files.specs.Texts.{texts}
use Rattle.smk_eval_files.specs.Placing.{waiting}
use Rattle.smk_eval_files.proofs.placing.text_of.Given as goal

abbrev pub invariant-files : goal.invariant-files
invariant-files l = record {
  ahead : l.files ≡ l.ahead ++ drop (length l.ahead) l.files;
  later : waiting l.later ≡ texts (drop (length l.ahead) l.files);
}

abbrev pub decreases-files : goal.decreases-files
decreases-files l = length l.ahead
