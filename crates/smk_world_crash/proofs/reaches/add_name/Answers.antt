use Rattle.smk_world_crash.proofs.Gathered.{name_added}
use Rattle.smk_world_crash.proofs.reaches.add_name.Goals as goal

pub returns : goal.returns
returns c = λ q. name_added q c.args.text.now c.in_ok-of.field-0 c.args.names.now _ c.in_ok-push.ensures.ok c.in_ok-of.ensures
