use Rattle.smk_laws_complete.proofs.Loaded.{loaded_by_files}
use Rattle.smk_laws_complete.proofs.workflows_are_told_by_their_files.Goals as goal

pub returns : goal.returns
returns c = loaded_by_files
