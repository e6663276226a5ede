use Rattle.std.proofs.Common.{◌≡◌, ◌<◌, List, ℕ, length, get_or, subst}
use Rattle.std.proofs.lemmas.Str.{IsCharBoundary-after_ascii}
use Rattle.smk_template.proofs.Read.{brace_small}
use Rattle.smk_template.proofs.reading.symbol_in.Goals as goal

pub range_from-after-requires : goal.range_from-after-requires
range_from-after-requires c = λ _. IsCharBoundary-after_ascii c.args.text.now 0 c.utf8.text c.requires.some (brace_small _ c.requires.brace)

pub range-requires-clause-end_boundary : goal.range-requires-clause-end_boundary
range-requires-clause-end_boundary c = IsCharBoundary-after_ascii c.args.text.now 0 c.utf8.text c.requires.some (brace_small _ c.requires.brace)

pub range_from-requires : goal.range_from-requires
range_from-requires c = λ _.
    let after = c.range_from-after.result.now in
    let same : c.as_bytes-2.result.now ≡ after = c.as_bytes-2.ensures.value in
    IsCharBoundary-after_ascii after 0 c.range_from-after.utf8
    (subst (λ (t : List ℕ). 0 < length t) same (c.is_doubled.ensures.within c.if-is_doubled.true))
    (subst (λ (t : List ℕ). get_or t 0 0 < 128) same (c.is_doubled.ensures.ascii c.if-is_doubled.true))
