use Rattle.std.proofs.Common.{sym, ◌∙◌}
use Rattle.smk_words_reading.specs.Asking.{all_of, amount_in}
use Rattle.smk_words_reading.proofs.Slices.{words_now, none_read, one_read, one_unread, all_read}
use Rattle.smk_words_reading.proofs.asking.all_amounts.Goals as goal

pub loop-word-init : goal.loop-word-init
loop-word-init c = none_read c.new-amounts.result c.new-amounts.ensures (all_of amount_in (words_now c.args.words.now))

pub returns-in_default : goal.returns-in_default
returns-in_default c =
    one_unread amount_in c.args.words.now c.loop-word.word-index c.loop-word.amounts c.loop-word.invariant c.loop-word-test.true (sym c.in_default.is ∙ c.in_ok-amount.ensures)

pub loop-word-preserved : goal.loop-word-preserved
loop-word-preserved c =
    one_read amount_in c.args.words.now c.loop-word.word-index c.loop-word.amounts c.push.new.self c.in-Some.amount c.loop-word.invariant c.loop-word-test.true
    (sym c.in-Some.is ∙ c.in_ok-amount.ensures) c.in_ok-push.ensures.ok

pub returns : goal.returns
returns c = all_read amount_in c.args.words.now c.loop-word.word-index c.loop-word.amounts c.loop-word.invariant c.loop-word-test.false
