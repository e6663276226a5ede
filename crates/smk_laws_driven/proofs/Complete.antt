-- A run ends well, or for a named reason.
use Rattle.std.proofs.Common.{Ok, Err}
use Rattle.smk_laws_driven.proofs.Succeeding.{driven_succeeds}
use Rattle.smk_laws_driven.specs.Named.{DrivenIsComplete}
use Rattle.smk_laws_driven.proofs.Whole.{driven_faults_are_named}

pub driven_is_complete : DrivenIsComplete
driven_is_complete o rules H (Ok end) w v old new p q at at_v reader reads differ sound plain alone values never h =
    driven_succeeds o rules H end w v old new p q at at_v reader reads differ sound alone values never h
driven_is_complete o rules H (Err f) w v old new p q at at_v reader reads differ sound plain alone values never h =
    driven_faults_are_named o rules H f w v old new p q at at_v reader reads differ sound plain alone values h
