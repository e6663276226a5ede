use Rattle.smk_world_real.proofs.Numbers.{Contains-number}
use Rattle.smk_world_real.proofs.children.wait_for_oldest.Goals as goal

pub returns-clause-among : goal.returns-clause-among
returns-clause-among g c = Contains-number _ c.args.children.now 0 c.wait.new.self c.index-children-0.result c.requires c.wait.ensures
