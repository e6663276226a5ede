use Rattle.smk_plan_live.proofs.Effects.{begun_tells, closed_tells, spent_tells, restored_tells}
use Rattle.smk_plan_live.proofs.changes_are_told.Goals as goal

pub returns : goal.returns
returns c = record { begun = begun_tells; closed = closed_tells; spent = spent_tells; restored = restored_tells }
