use Rattle.smk_chain_walk.proofs.Placed.{inserted_last}
use Rattle.smk_chain_walk.proofs.reached.Reached.push.Goals as goal

pub returns-clause-texts : goal.returns-clause-texts
returns-clause-texts c = inserted_last c.args.self.now.texts.keys c.insert.new.self.keys c.args.key c.requires c.in_ok-insert.ensures.keys
