use Rattle.smk_laws_turns.proofs.Given.{laws}
use Rattle.smk_laws_turns.proofs.Grows.{growth_goes_on, round_goes_on}
use Rattle.smk_laws_turns.proofs.runs_grow.Goals as goal

pub returns : goal.returns
returns c = record { round = round_goes_on laws; all = growth_goes_on laws }
