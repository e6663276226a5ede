use Rattle.smk_laws_driven.proofs.Ended.{driven_is_clean, driven_leaves_none, driven_tells, driven_tells_all}
use Rattle.smk_laws_driven.proofs.driven_ends_well.Goals as goal

pub returns : goal.returns
returns c = record { tells = driven_tells; tells_all = driven_tells_all; clean = driven_is_clean; leaves = driven_leaves_none }
