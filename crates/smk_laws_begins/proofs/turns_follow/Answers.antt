use Rattle.smk_laws_begins.proofs.Going.{goes_further, goes_held, goes_nowhere, goes_once}
use Rattle.smk_laws_begins.proofs.turns_follow.Goals as goal

pub returns : goal.returns
returns c = record { nothing = goes_nowhere; once = goes_once; further = goes_further; held = goes_held }
