use Rattle.smk_laws_complete.proofs.Meant.{awaited_are_recorded, gathered_are_recorded, listings_stay_meant}
use Rattle.smk_laws_complete.proofs.listings_stay_meant.Goals as goal

pub returns : goal.returns
returns c = record { meant = listings_stay_meant; awaited = awaited_are_recorded; gathered = gathered_are_recorded }
