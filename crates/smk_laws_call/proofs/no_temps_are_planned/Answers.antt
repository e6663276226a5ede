use Rattle.smk_laws_call.proofs.Temps.{no_temps, one_by_one_has_no_temps}
use Rattle.smk_laws_call.proofs.no_temps_are_planned.Goals as goal

pub returns : goal.returns
returns c = record { plans = no_temps; one_by_one = one_by_one_has_no_temps }
