use Rattle.smk_laws_keys.proofs.Little.{leaves_little}
use Rattle.smk_laws_keys.proofs.cleaning_leaves_little.Goals as goal

pub returns : goal.returns
returns c = leaves_little
