use Rattle.smk_laws_begins.proofs.Turn.{begun_turns, unbegun_turns, unfit_turns}
use Rattle.smk_laws_begins.proofs.beginnings_are_turns.Goals as goal

pub returns : goal.returns
returns c = record { unfit = unfit_turns; unbegun = unbegun_turns; begun = begun_turns }
