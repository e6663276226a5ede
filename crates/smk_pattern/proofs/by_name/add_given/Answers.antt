use Rattle.std.proofs.Common.{sym, ap, ◌∙◌, is_some, List, ℕ}
use Rattle.smk_pattern.specs.ByName.{place_at, text_at}
use Rattle.smk_pattern.proofs.Kept.{given_absent, given_kept, given_added}
use Rattle.smk_pattern.proofs.by_name.add_given.Goals as goal

pub returns-then-not-has_place : goal.returns-then-not-has_place
returns-then-not-has_place c = λ q some.
    let places = c.args.names.now.places in
    given_absent q c.args.pair.now.name c.args.pair.now.value places (text_at c.args.texts.now q)
    (ap (λ (n : List ℕ). is_some (place_at places n)) (sym c.as_str-name.ensures) ∙ sym c.has_place.ensures ∙ c.if-not-has_place.true) some

pub returns-then-has_text : goal.returns-then-has_text
returns-then-has_text c = λ q some.
    given_kept q c.args.pair.now.name c.args.pair.now.value (text_at c.args.texts.now)
    (ap (λ (n : List ℕ). is_some (text_at c.args.texts.now n)) (sym c.as_str-name.ensures) ∙ sym c.has_text.ensures ∙ c.if-has_text.true)

pub returns : goal.returns
returns c = λ q some.
    let kept = rw (c.as_str-name.ensures, c.as_str.ensures) at c.in_ok-keep_text.ensures in
    given_added q c.args.pair.now.name c.args.pair.now.value (text_at c.args.texts.now) (text_at c.keep_text.new.texts)
    (ap (λ (n : List ℕ). is_some (text_at c.args.texts.now n)) (sym c.as_str-name.ensures) ∙ sym c.has_text.ensures ∙ c.if-has_text.false) (kept q)
