use Rattle.std.proofs.Common.{sym, ◌∙◌}
use Rattle.smk_words_reading.proofs.Numerals.{unparsed, spelled_so, spelled_other}
use Rattle.smk_words_reading.proofs.numbers.number_in.Goals as goal

pub returns-in-Err : goal.returns-in-Err
returns-in-Err c = unparsed c.args.least c.args.most c.args.word.now _ c.parse.result c.ranges.most.fits c.parse.ensures.value.0 c.in-Err.is

pub returns-then-good : goal.returns-then-good
returns-then-good c = spelled_so c.args.least c.args.most c.args.word.now c.in-Ok.number c.ranges.most.fits (sym c.in_ok-good-in-Ok.ensures ∙ c.if-good.true)

pub returns-else-good : goal.returns-else-good
returns-else-good c =
    spelled_other c.args.least c.args.most c.args.word.now c.in-Ok.number c.parse.result c.ranges.most.fits c.parse.ensures.value.0 c.in-Ok.is
    (sym c.in_ok-good-in-Ok.ensures ∙ c.if-good.false)
