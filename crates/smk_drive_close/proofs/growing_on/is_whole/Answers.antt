use Rattle.std.proofs.Common.{◌∙◌, sym}
use Rattle.std.proofs.lemmas.Bool.{both_ways}
use Rattle.smk_drive_close.proofs.growing_on.is_whole.Goals as goal

pub returns-clause-whole : goal.returns-clause-whole
returns-clause-whole c = λ e. sym c.known.ensures ∙ c.is_empty.ensures.0 e

pub returns-clause-more : goal.returns-clause-more
returns-clause-more c = λ e none. both_ways c.is_empty.result e (c.is_empty.ensures.1 (c.known.ensures ∙ none))
