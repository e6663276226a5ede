use Rattle.smk_words_reading.proofs.Loops.{plain_found}
use Rattle.smk_words_reading.proofs.letters.is_plain.Goals as goal

pub returns : goal.returns
returns c = plain_found c.args.word.now c.behind_dash.result c.is_none.result c.behind_dash.ensures c.is_none.ensures
