use Rattle.smk_laws_edit.proofs.EditedWorlds.{after_edit}
use Rattle.smk_laws_edit.proofs.after_edit_only_downstream.Goals as goal

pub returns : goal.returns
returns c = after_edit
