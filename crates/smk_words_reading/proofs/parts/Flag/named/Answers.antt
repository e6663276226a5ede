use Rattle.std.proofs.Common.{List, ℕ, sym, ◌∙◌, ap, bytes_eq}
use Rattle.smk_words_reading.specs.Words.{flag_word}
use Rattle.smk_words_reading.proofs.Slices.{find_next}
use Rattle.smk_words_reading.proofs.parts.Flag.named.Goals as goal

pub loop-flag-preserved : goal.loop-flag-preserved
loop-flag-preserved c =
    find_next (λ f. bytes_eq (flag_word f) c.args.word.now) _ c.loop-flag.flag-index _ _ c.loop-flag.invariant c.loop-flag-test.true
    (ap (λ (t : List ℕ). bytes_eq t c.args.word.now) (sym c.word.ensures) ∙ sym c.eq.ensures ∙ c.if-eq.false)
