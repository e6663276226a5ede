use Rattle.std.proofs.Common.{List, ℕ, sym, ◌∙◌, ap, bytes_eq}
use Rattle.smk_words_reading.specs.Words.{setting_word}
use Rattle.smk_words_reading.proofs.Slices.{find_next}
use Rattle.smk_words_reading.proofs.parts.Setting.named.Goals as goal

pub loop-setting-preserved : goal.loop-setting-preserved
loop-setting-preserved c =
    find_next (λ f. bytes_eq (setting_word f) c.args.word.now) _ c.loop-setting.setting-index _ _ c.loop-setting.invariant c.loop-setting-test.true
    (ap (λ (t : List ℕ). bytes_eq t c.args.word.now) (sym c.word.ensures) ∙ sym c.eq.ensures ∙ c.if-eq.false)
