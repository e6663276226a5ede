use Rattle.std.proofs.Common.{sym, ◌∙◌, map, string_bytes}
use Rattle.smk_words_reading.specs.declared.spelling.Expected.TheVariants.{Word}
use Rattle.smk_words_reading.specs.Reading.{spelled}
use Rattle.smk_words_reading.proofs.Slices.{none_read, word_more, word_less, words_whole, words_open}
use Rattle.smk_words_reading.proofs.spelling.parts_of.Goals as goal

pub loop-word-init : goal.loop-word-init
loop-word-init c = none_read c.new-parts.result c.new-parts.ensures (spelled Word (map string_bytes c.args.words.now))

pub returns-in_default : goal.returns-in_default
returns-in_default c =
    word_less string_bytes c.args.words.now c.loop-word.word-index c.word-item.result c.as_str.result.now c.loop-word.expected c.loop-word.parts
    (spelled Word (map string_bytes c.args.words.now)) c.loop-word.invariant c.loop-word-test.true c.word-item.is c.as_str.ensures.value
    (sym c.in_default.is ∙ c.in_ok-next.ensures.next)

pub loop-word-preserved : goal.loop-word-preserved
loop-word-preserved c =
    word_more string_bytes c.args.words.now c.loop-word.word-index c.word-item.result c.as_str.result.now c.loop-word.expected c.in-Some.next c.loop-word.parts
    c.read_next.new.parts (spelled Word (map string_bytes c.args.words.now)) c.loop-word.invariant c.loop-word-test.true c.word-item.is c.as_str.ensures.value
    c.in_ok-next.ensures.parts (sym c.in-Some.is ∙ c.in_ok-next.ensures.next)

pub returns-then-whole : goal.returns-then-whole
returns-then-whole c =
    words_whole string_bytes c.args.words.now c.loop-word.word-index c.loop-word.expected c.loop-word.parts (spelled Word (map string_bytes c.args.words.now))
    c.loop-word.invariant c.loop-word-test.false (sym c.may_end-whole.ensures ∙ c.if-whole.true)

pub returns-else-whole : goal.returns-else-whole
returns-else-whole c =
    words_open string_bytes c.args.words.now c.loop-word.word-index c.loop-word.expected c.loop-word.parts (spelled Word (map string_bytes c.args.words.now))
    c.loop-word.invariant c.loop-word-test.false (sym c.may_end-whole.ensures ∙ c.if-whole.false)
