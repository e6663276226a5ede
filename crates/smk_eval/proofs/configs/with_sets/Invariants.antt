use Rattle.std.proofs.Common.{◌≡◌, drop}
use Rattle.smk_config.specs.Settings.{members}
use Rattle.smk_eval.specs.Loading.{with_sets}
use Rattle.smk_eval.proofs.configs.with_sets.Given as goal

abbrev pub invariant-loop-set : goal.invariant-loop-set
invariant-loop-set l = with_sets (members l.config) (drop l.set-index l.sets) ≡ with_sets (members l.fn.config) l.sets
