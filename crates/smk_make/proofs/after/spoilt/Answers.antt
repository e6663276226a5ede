use Rattle.smk_make.proofs.Lower.{lower_at}
use Rattle.smk_make.proofs.after.spoilt.Goals as goal

pub needing-requires : goal.needing-requires
needing-requires c = record { earlier = lower_at c.args.befores.now c.requires.lower }
