use Rattle.smk_laws_history.proofs.CurrentStamps.{agreeing_tells, stamp_tells}
use Rattle.smk_laws_history.proofs.stamps_tell.Goals as goal

pub returns : goal.returns
returns c = record { now = stamp_tells; recorded = agreeing_tells }
