use Rattle.std.proofs.Common.{sym, ◌∙◌}
use Rattle.smk_words_reading.proofs.Loops.{dash_first, no_ascii_dash}
use Rattle.smk_words_reading.proofs.letters.behind_dash.Goals as goal

pub behind_letter-requires-text-rest : goal.behind_letter-requires-text-rest
behind_letter-requires-text-rest c κs = c.in-Some.ensures.utf8

pub returns-in-Some : goal.returns-in-Some
returns-in-Some c = c.behind_letter.ensures ∙ dash_first c.args.word.now c.in-Some.rest.now c.in-Some.letter c.in-Some.ensures.cases

pub returns-in-None : goal.returns-in-None
returns-in-None c = sym (no_ascii_dash c.args.word.now c.in-None.ensures.cases)
