use Rattle.std.proofs.Common.{◌≡◌, drop}
use Rattle.smk_config.specs.Settings.{members}
use Rattle.smk_eval_files.specs.Placing.{entries}
use Rattle.smk_eval.specs.Statements.{begun, all_stated}
use Rattle.smk_eval.specs.Seen.{state_of}
use Rattle.smk_eval.proofs.evaluating.all_stated.Given as goal

abbrev pub invariant-loop-placed : goal.invariant-loop-placed
invariant-loop-placed l = all_stated (members l.config) (state_of l.state) (entries (drop l.placed-index l.text)) ≡ all_stated (members l.config) begun (entries l.text)
