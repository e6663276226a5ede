use Rattle.std.proofs.Common.{sym, ap, ◌∙◌, is_some, List, ℕ}
use Rattle.smk_pattern.specs.ByName.{text_at}
use Rattle.smk_pattern.proofs.Kept.{given_kept, given_added}
use Rattle.smk_pattern.proofs.by_name.add_value.Goals as goal

pub returns-then-has_text : goal.returns-then-has_text
returns-then-has_text c = λ q.
    given_kept q c.args.pair.now.name c.args.pair.now.value (text_at c.args.texts.now)
    (ap (λ (n : List ℕ). is_some (text_at c.args.texts.now n)) (sym c.as_str-name.ensures) ∙ sym c.has_text.ensures ∙ c.if-has_text.true)

pub returns : goal.returns
returns c = λ q.
    let kept = rw (c.as_str-name.ensures, c.as_str.ensures) at c.in_ok-keep_text.ensures in
    given_added q c.args.pair.now.name c.args.pair.now.value (text_at c.args.texts.now) (text_at c.keep_text.new.texts)
    (ap (λ (n : List ℕ). is_some (text_at c.args.texts.now n)) (sym c.as_str-name.ensures) ∙ sym c.has_text.ensures ∙ c.if-has_text.false) (kept q)
