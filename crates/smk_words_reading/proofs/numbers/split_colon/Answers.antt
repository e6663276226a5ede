use native.Mathlib.Omega.{arith}
use Rattle.smk_words_reading.proofs.Cuts.{cut_found}
use Rattle.smk_words_reading.proofs.numbers.split_colon.Goals as goal

pub returns : goal.returns
returns c = cut_found 58 c.args.word.now c.split_once.result c.split_once.ensures.cases (omega arith)
