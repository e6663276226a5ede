use Rattle.smk_world_nodes.specs.declared.step.Step.TheVariants.{Gone}
use Rattle.smk_world_nodes.proofs.Replay.{agrees_gone, orderly_gone, stepped_from}
use Rattle.smk_world_mem.proofs.Causes.{caused_step, log_gone}
use Rattle.smk_world_mem.proofs.Mem.{told_less}
use Rattle.smk_world_mem.proofs.work.MemWork.take.Goals as goal

pub invariant_of-self : goal.invariant_of-self
invariant_of-self c =
    let told = c.tells_on-self.ensures.told in record {
      agrees = λ is. agrees_gone c.args.self.now.told c.args.self.now.nodes c.take_firmly.new.nodes c.args.self.now.steps c.take_firmly.new.steps c.args.self.now.agrees c.args.p.now c.in-Ok.ensures.nodes c.in-Ok.ensures.steps (told is);
      orderly = λ is. orderly_gone c.args.self.now.told _ _ c.args.self.now.steps _ _ c.args.self.now.orderly c.in-Ok.ensures.steps (told is);
      rooted = c.tells_on-self.ensures.stand;
      caused = λ is. caused_step c.args.self.now.told c.args.self.now.failing c.args.self.now.stop_after c.args.self.now.killed c.args.self.now.calls c.args.self.now.faults c.args.self.now.next c.args.self.now.steps c.take_firmly.new.steps c.args.self.now.caused (log_gone _ c.take_firmly.new.steps c.args.p.now c.in-Ok.ensures.steps) (told is);
    }

pub returns-in-Ok-clause-world : goal.returns-in-Ok-clause-world
returns-in-Ok-clause-world c = λ w e. stepped_from c.args.self.now.told _ _ (Gone c.args.p.now) c.in-Ok.ensures.steps w (told_less c.args.self.now.told c.tells_on-self.result c.take_firmly.new.steps c.tells_on-self.ensures.told w e)
