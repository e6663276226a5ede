use Rattle.smk_world_real.proofs.Numbers.{All-below_next}
use Rattle.smk_world_real.proofs.work.RealWorkCrew.start.Goals as goal

pub invariant_of-self-in-Ok : goal.invariant_of-self-in-Ok
invariant_of-self-in-Ok g c = record { older = All-below_next _ _ c.args.self.now.next c.in-Ok.ensures.ok c.args.self.now.older }
