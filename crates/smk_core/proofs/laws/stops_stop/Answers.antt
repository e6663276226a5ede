use Rattle.smk_core.proofs.Shown.{failure_stops, stays_stopped, stop_stops}
use Rattle.smk_core.proofs.laws.stops_stop.Goals as goal

pub returns : goal.returns
returns c = record { stop = stop_stops; failure = failure_stops; stays = stays_stopped }
