use Rattle.smk_clean.proofs.Leaving.{lock_is_left}
use Rattle.smk_clean.proofs.lock_is_left.Goals as goal

pub returns : goal.returns
returns c = lock_is_left
