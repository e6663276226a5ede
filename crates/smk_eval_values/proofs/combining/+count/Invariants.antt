use Rattle.std.proofs.Common.{length}
use Rattle.smk_eval_values.proofs.combining.+count.Given as goal

abbrev pub decreases-count : goal.decreases-count
decreases-count l = length l.choices.now
