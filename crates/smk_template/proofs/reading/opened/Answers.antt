use Rattle.std.proofs.Common.{◌≡◌, ℕ, ◌+◌, ◌-◌, ◌<◌, true, false, [], ◌∷◌, take, drop, get_or, ap, sym, ◌∙◌, arith}
use Rattle.std.proofs.lemmas.Str.{IsCharBoundary-after_ascii}
use Rattle.smk_template.specs.Templates.{Text, Field, Loose, symbols, first_brace, is_doubled, is_closed}
use Rattle.smk_template.proofs.Read.{first_and_rest, field_first, unclosed_first, within_by_byte, closed_by_byte, open_by_byte, brace_and}
use Rattle.smk_template.proofs.reading.opened.Goals as goal

pub range_from-after-requires : goal.range_from-after-requires
range_from-after-requires c = λ _. IsCharBoundary-after_ascii c.args.text.now 0 c.utf8.text c.requires.some (omega (arith, c.requires.brace))

pub range_from-requires : goal.range_from-requires
range_from-requires c = λ _.
    let after = c.range_from-after.result.now in
    let k = c.first_brace-inside.result in
    let byte : get_or after k 0 ≡ 125 = sym (c.byte.ensures ∙ ap (λ (t : Text). get_or t k 0) c.as_bytes-2.ensures.value) ∙ c.if-byte-eq125.true in
    IsCharBoundary-after_ascii after k c.range_from-after.utf8 (within_by_byte after k byte) (omega (arith, byte))

pub returns-then-byte-eq125-clause-read : goal.returns-then-byte-eq125-clause-read
returns-then-byte-eq125-clause-read c =
    let text = c.args.text.now in
    let after = c.range_from-after.result.now in
    let k = c.first_brace-inside.result in
    let whole : text ≡ 123 ∷ after = first_and_rest text after 123 c.requires.some (sym c.requires.brace) c.range_from-after.ensures.value in
    let alone : is_doubled 123 after ≡ false = ap (is_doubled 123) c.range_from-after.ensures.value ∙ c.requires.alone in
    let first : k ≡ first_brace after = c.first_brace-inside.ensures.value ∙ ap first_brace c.as_bytes.ensures.value in
    let closed : is_closed after k ≡ true = closed_by_byte c.byte.result k after (c.byte.ensures ∙ ap (λ (t : Text). get_or t k 0) c.as_bytes-2.ensures.value) c.if-byte-eq125.true in
    let less_none : k - 0 ≡ k = omega arith in
    let cut : c.range.result.now ≡ take k after = c.range.ensures.value ∙ ap (λ (n : ℕ). take n after) less_none in
    ap symbols whole
    ∙ field_first after k first alone closed
    ∙ ap (λ (t : Text). Field t ∷ symbols (drop (k + 1) after)) (sym cut)
    ∙ ap (λ (t : Text). Field c.range.result.now ∷ symbols t) (sym c.range_from.ensures.value)

pub returns-else-byte-eq125-clause-read : goal.returns-else-byte-eq125-clause-read
returns-else-byte-eq125-clause-read c =
    let text = c.args.text.now in
    let after = c.range_from-after.result.now in
    let k = c.first_brace-inside.result in
    let whole : text ≡ 123 ∷ after = first_and_rest text after 123 c.requires.some (sym c.requires.brace) c.range_from-after.ensures.value in
    let alone : is_doubled 123 after ≡ false = ap (is_doubled 123) c.range_from-after.ensures.value ∙ c.requires.alone in
    let first : k ≡ first_brace after = c.first_brace-inside.ensures.value ∙ ap first_brace c.as_bytes.ensures.value in
    let loose : is_closed after k ≡ false = open_by_byte c.byte.result k after (c.byte.ensures ∙ ap (λ (t : Text). get_or t k 0) c.as_bytes-2.ensures.value) c.if-byte-eq125.false in
    let less_none : k + 1 - 0 ≡ k + 1 = omega arith in
    let cut : c.range-else-byte-eq125.result.now ≡ take (k + 1) text = c.range-else-byte-eq125.ensures.value ∙ ap (λ (n : ℕ). take n text) less_none in
    ap symbols whole
    ∙ unclosed_first after k first alone loose
    ∙ ap (λ (t : Text). Loose t ∷ symbols (drop k after)) (brace_and text after c.range-else-byte-eq125.result.now k whole cut)
    ∙ ap (λ (t : Text). Loose c.range-else-byte-eq125.result.now ∷ symbols t) (sym c.range_from-else-byte-eq125.ensures.value)
