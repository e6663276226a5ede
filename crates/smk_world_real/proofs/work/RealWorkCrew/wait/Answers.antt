use Rattle.smk_world_real.proofs.Numbers.{All-below_ended}
use Rattle.smk_world_real.proofs.work.RealWorkCrew.wait.Goals as goal

pub invariant_of-self : goal.invariant_of-self
invariant_of-self g c = record { older = All-below_ended c.wait.result _ _ c.args.self.now.next c.wait.ensures.ok c.wait.ensures.err c.args.self.now.older }
