use Rattle.std.proofs.Common.{refl}
use Rattle.smk_store.proofs.Loads.{path_found}
use Rattle.smk_plan_look.proofs.looking.path_in.Goals as goal

pub returns-in-Ok : goal.returns-in-Ok
returns-in-Ok c = path_found c.args.text.now c.in-Ok.path c.in-Ok.ensures.path (c.in-Ok.ensures.is_path refl) c.utf8.text
