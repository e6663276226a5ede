use Rattle.smk_world_real.proofs.Kept.{begins}
use Rattle.smk_world_real.proofs.fault.Faults.note.Goals as goal

pub returns-then-is_none-clause-kept : goal.returns-then-is_none-clause-kept
returns-then-is_none-clause-kept c = begins _ _ _ _ _ c.is_none.result c.is_none.ensures c.if-is_none.true c.failure_of.ensures
