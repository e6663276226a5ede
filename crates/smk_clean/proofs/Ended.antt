-- What a run leaves that is driven and comes to its end.
use Rattle.smk_laws_driven.proofs.Ended.{driven_is_clean, driven_leaves_none, driven_tells}
use Rattle.smk_clean.proofs.Ending.{DrivenEnds}

pub drives_end : DrivenEnds
drives_end = record { tells = driven_tells; clean = driven_is_clean; none_left = driven_leaves_none }
