use Rattle.smk_world.specs.declared.event.Node.TheVariants.{Regular}
use Rattle.std.proofs.Common.{false}
use Rattle.smk_world_nodes.specs.declared.step.Step.TheVariants.{Put}
use Rattle.smk_world_nodes.proofs.Replay.{agrees_put, orderly_put, stepped_from, world_kept}
use Rattle.smk_world_mem.proofs.Causes.{caused_step, log_put}
use Rattle.smk_world_mem.proofs.Mem.{told_less}
use Rattle.smk_world_mem.proofs.work.MemWork.place.Goals as goal

pub invariant_of-self : goal.invariant_of-self
invariant_of-self c =
    let told = c.tells_on-self.ensures.told in record {
      agrees = λ is. agrees_put c.args.self.now.told c.args.self.now.nodes c.put_firmly.new.nodes c.args.self.now.steps c.put_firmly.new.steps c.args.self.now.agrees c.args.p.now (Regular c.args.bytes.now c.args.time false) c.in-Ok.ensures.nodes c.in-Ok.ensures.steps (told is);
      orderly = λ is. orderly_put c.args.self.now.told _ _ _ c.args.self.now.steps _ _ c.args.self.now.orderly c.in-Ok.ensures.steps (told is);
      rooted = c.tells_on-self.ensures.stand;
      caused = λ is. caused_step c.args.self.now.told c.args.self.now.failing c.args.self.now.stop_after c.args.self.now.killed c.args.self.now.calls c.args.self.now.faults c.args.self.now.next c.args.self.now.steps c.put_firmly.new.steps c.args.self.now.caused (log_put _ c.put_firmly.new.steps c.args.p.now (Regular c.args.bytes.now c.args.time false) c.in-Ok.ensures.steps) (told is);
    }

pub returns-in-Ok-clause-ok : goal.returns-in-Ok-clause-ok
returns-in-Ok-clause-ok c = λ w e. stepped_from c.args.self.now.told _ _ (Put c.args.p.now (Regular c.args.bytes.now c.args.time false)) c.in-Ok.ensures.steps w (told_less c.args.self.now.told c.tells_on-self.result c.put_firmly.new.steps c.tells_on-self.ensures.told w e)

pub returns-in-Err-clause-err : goal.returns-in-Err-clause-err
returns-in-Err-clause-err c = world_kept c.args.self.now.told _ _ c.in-Err.ensures.lost
