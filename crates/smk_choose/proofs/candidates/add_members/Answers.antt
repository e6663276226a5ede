use Rattle.smk_choose.proofs.Tried.{no_members_more}
use Rattle.smk_choose.proofs.candidates.add_members.Goals as goal

pub returns-in-None : goal.returns-in-None
returns-in-None c = no_members_more c.args.found.now.items c.args.number c.args.readings.now c.args.folders.now c.in-None.ensures.lookup.0
