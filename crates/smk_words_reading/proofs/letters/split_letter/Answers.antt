use native.Mathlib.Omega.{arith}
use Rattle.std.proofs.Common.{◌≡◌, ℕ, ◌<◌, ◌≤◌, List, length, get_or, subst, sym, ◌∙◌}
use Rattle.std.proofs.lemmas.Bool.{ltb-true}
use Rattle.std.proofs.lemmas.Str.{IsCharBoundary-after_ascii}
use Rattle.smk_words_reading.proofs.letters.split_letter.Goals as goal

pub range_from-requires : goal.range_from-requires
range_from-requires c = λ _.
    let some : 0 < length c.args.text.now = subst (λ (t : List ℕ). 0 < length t) c.as_bytes.ensures.value (omega (arith, c.in-len1-up.len_at_least)) in
    IsCharBoundary-after_ascii c.args.text.now 0 c.utf8.text some
    (subst (λ (t : List ℕ). get_or t 0 0 < 128) c.as_bytes.ensures.value (ltb-true _ 128 (sym c.is_ascii.ensures ∙ c.if-is_ascii.true)))
