use Rattle.smk_laws_turns.proofs.AllStands.{midway_keeps_marks, protocol_keeps, stands_are_moments}
use Rattle.smk_laws_turns.proofs.GoingOn.{goes_on}
use Rattle.smk_laws_turns.proofs.stands_stay_moments.Goals as goal

pub returns : goal.returns
returns c = record { on = goes_on; all = stands_are_moments; marks = midway_keeps_marks; protocol = protocol_keeps }
