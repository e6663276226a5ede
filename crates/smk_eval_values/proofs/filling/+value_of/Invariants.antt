use Rattle.std.proofs.Common.{length}
use Rattle.smk_eval_values.proofs.filling.+value_of.Given as goal

abbrev pub decreases-value_of : goal.decreases-value_of
decreases-value_of l = length l.bound.now
