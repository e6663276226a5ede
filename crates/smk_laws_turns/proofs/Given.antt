-- The laws of another crate that are used here.
use Rattle.smk_laws_turns.proofs.GrownAgreeing.{growth_agrees}
use Rattle.smk_laws_turns.proofs.GrownAlike.{growth_is_alike}
use Rattle.smk_laws_turns.proofs.TakenLaws.{Laws}

pub laws : Laws
laws = record { growth_agrees = growth_agrees; growth_is_alike = growth_is_alike }
