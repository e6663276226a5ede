use Rattle.smk_world_nodes.proofs.Stood.{names_are}
use Rattle.smk_world_nodes.proofs.rooted.has_names.Goals as goal

pub loop-b-init : goal.loop-b-init
loop-b-init c = names_are c.args.p.now
