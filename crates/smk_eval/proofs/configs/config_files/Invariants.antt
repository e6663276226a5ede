use Rattle.std.proofs.Common.{◌≡◌, take}
use Rattle.smk_eval_files.specs.Placing.{entries}
use Rattle.smk_eval.specs.Loading.{config_files}
use Rattle.smk_eval.proofs.configs.config_files.Given as goal

abbrev pub invariant-loop-placed : goal.invariant-loop-placed
invariant-loop-placed l = l.files ≡ config_files (entries (take l.placed-index l.text))
