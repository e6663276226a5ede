use Rattle.smk_choose.proofs.Tried.{no_output_more}
use Rattle.smk_choose.proofs.candidates.add_output.Goals as goal

pub returns-in-None : goal.returns-in-None
returns-in-None c = no_output_more c.args.found.now.items c.args.number c.args.rules.now c.args.path.now c.in-None.ensures.lookup.0
