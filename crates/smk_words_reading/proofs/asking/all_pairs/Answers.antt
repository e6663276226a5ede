use Rattle.std.proofs.Common.{sym, ◌∙◌}
use Rattle.smk_words_reading.specs.Asking.{all_of, pair_in}
use Rattle.smk_words_reading.proofs.Slices.{words_now, none_read, one_read, one_unread, all_read}
use Rattle.smk_words_reading.proofs.asking.all_pairs.Goals as goal

pub loop-word-init : goal.loop-word-init
loop-word-init c = none_read c.new-pairs.result c.new-pairs.ensures (all_of pair_in (words_now c.args.words.now))

pub returns-in_default : goal.returns-in_default
returns-in_default c =
    one_unread pair_in c.args.words.now c.loop-word.word-index c.loop-word.pairs c.loop-word.invariant c.loop-word-test.true (sym c.in_default.is ∙ c.in_ok-pair.ensures)

pub loop-word-preserved : goal.loop-word-preserved
loop-word-preserved c =
    one_read pair_in c.args.words.now c.loop-word.word-index c.loop-word.pairs c.push.new.self c.in-Some.pair c.loop-word.invariant c.loop-word-test.true
    (sym c.in-Some.is ∙ c.in_ok-pair.ensures) c.in_ok-push.ensures.ok

pub returns : goal.returns
returns c = all_read pair_in c.args.words.now c.loop-word.word-index c.loop-word.pairs c.loop-word.invariant c.loop-word-test.false
