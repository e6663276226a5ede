use Rattle.smk_laws_turns.proofs.Going.{goes_on_from, rests_there}
use Rattle.smk_laws_turns.proofs.runs_go_on.Goals as goal

pub returns : goal.returns
returns c = record { rests = rests_there; more = goes_on_from }
