use Rattle.std.proofs.Common.{◌≡◌, ℕ, ◌+◌, ◌-◌, ◌<◌, List, [], ◌∷◌, take, drop, length, get_or, ap, sym, subst, ◌∙◌, arith}
use Rattle.std.proofs.lemmas.Str.{IsCharBoundary-after_ascii}
use Rattle.smk_eval_values.specs.Letters.{name, letters, letters_of, closed_len}
use Rattle.smk_eval_values.proofs.Read.{brace_small, first_and_rest, name_first, whole}
use Rattle.smk_eval_values.proofs.reading.push_symbol.Goals as goal

pub range_from-after-requires : goal.range_from-after-requires
range_from-after-requires c = λ _. IsCharBoundary-after_ascii c.args.text.now 0 c.utf8.text c.requires.some (brace_small _ c.requires.brace)

pub range-requires-2-clause-end_boundary : goal.range-requires-2-clause-end_boundary
range-requires-2-clause-end_boundary c = IsCharBoundary-after_ascii c.args.text.now 0 c.utf8.text c.requires.some (brace_small _ c.requires.brace)

pub range_from-requires : goal.range_from-requires
range_from-requires c = λ _.
    let after = c.range_from-after.result.now in
    let len = c.closed_len-len.result in
    let same : c.as_bytes-2.result.now ≡ after = c.as_bytes-2.ensures.value in
    let closed : get_or after len 0 ≡ 125 = subst (λ (t : List ℕ). get_or t len 0 ≡ 125) same (c.closed_len-len.ensures.closed c.if-len-gt0.true) in
    IsCharBoundary-after_ascii after len c.range_from-after.utf8
    (subst (λ (t : List ℕ). len < length t) same (c.closed_len-len.ensures.within c.if-len-gt0.true))
    (omega (arith, closed))

pub range_from-requires-then-is_doubled : goal.range_from-requires-then-is_doubled
range_from-requires-then-is_doubled c = λ _.
    let after = c.range_from-after.result.now in
    let same : c.as_bytes-3.result.now ≡ after = c.as_bytes-3.ensures.value in
    IsCharBoundary-after_ascii after 0 c.range_from-after.utf8
    (subst (λ (t : List ℕ). 0 < length t) same (c.is_doubled.ensures.within c.if-is_doubled.true))
    (subst (λ (t : List ℕ). get_or t 0 0 < 128) same (c.is_doubled.ensures.ascii c.if-is_doubled.true))

pub returns-then-len-gt0-clause-read : goal.returns-then-len-gt0-clause-read
returns-then-len-gt0-clause-read c =
    let text = c.args.text.now in
    let after = c.range_from-after.result.now in
    let brace = c.byte-brace.result in
    let len = c.closed_len-len.result in
    let first : brace ≡ get_or text 0 0 = c.byte-brace.ensures ∙ ap (λ (t : List ℕ). get_or t 0 0) c.as_bytes.ensures.value in
    let long : len ≡ closed_len brace after = c.closed_len-len.ensures.value ∙ ap (closed_len brace) c.as_bytes-2.ensures.value in
    let less_none : len - 0 ≡ len = omega arith in
    let named : c.range.result.now ≡ take len after = c.range.ensures.value ∙ ap (λ (n : ℕ). take n after) less_none in
    whole (letters_of c.push_name.new.pieces) (letters_of c.args.pieces.now) (name c.range.result.now ∷ []) (letters c.range_from.result.now) (letters text)
    c.in_ok-push_name.ensures
    (ap letters (first_and_rest text after brace c.requires.some first c.range_from-after.ensures.value)
    ∙ name_first brace after len long c.if-len-gt0.true
    ∙ ap (λ (n : List ℕ). name n ∷ letters (drop (len + 1) after)) (sym named)
    ∙ ap (λ (t : List ℕ). name c.range.result.now ∷ letters t) (sym c.range_from.ensures.value))
