use Rattle.std.proofs.Common.{sym, ◌∙◌}
use Rattle.smk_words_reading.specs.Asking.{all_of, path_in}
use Rattle.smk_words_reading.proofs.Slices.{words_now, none_read, one_read, one_unread, all_read}
use Rattle.smk_words_reading.proofs.asking.all_paths.Goals as goal

pub loop-word-init : goal.loop-word-init
loop-word-init c = none_read c.new-paths.result c.new-paths.ensures (all_of path_in (words_now c.args.words.now))

pub returns-in_default : goal.returns-in_default
returns-in_default c =
    one_unread path_in c.args.words.now c.loop-word.word-index c.loop-word.paths c.loop-word.invariant c.loop-word-test.true (sym c.in_default.is ∙ c.in_ok-path.ensures)

pub loop-word-preserved : goal.loop-word-preserved
loop-word-preserved c =
    one_read path_in c.args.words.now c.loop-word.word-index c.loop-word.paths c.push.new.self c.in-Some.path c.loop-word.invariant c.loop-word-test.true
    (sym c.in-Some.is ∙ c.in_ok-path.ensures) c.in_ok-push.ensures.ok

pub returns : goal.returns
returns c = all_read path_in c.args.words.now c.loop-word.word-index c.loop-word.paths c.loop-word.invariant c.loop-word-test.false
