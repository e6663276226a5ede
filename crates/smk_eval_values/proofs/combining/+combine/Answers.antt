use Rattle.std.proofs.Common.{◌≡◌, ◌-◌, ◌<◌, List, ℕ, [], ◌∷◌, ◌++◌, take, drop, length, length-drop, ap, subst, ◌∙◌, arith}
use Rattle.std.specs.Prelude.{OnOk}
use Rattle.std.specs.List.{flat_map}
use Rattle.std.proofs.lemmas.List.{take_all}
use Rattle.smk_eval_values.specs.Letters.{stands, letters_of}
use Rattle.smk_eval_values.specs.Expanding.{combined}
use Rattle.smk_eval_values.proofs.Combine.{combined_found, combined_passed}
use Rattle.smk_eval_values.proofs.combining.+combine.Goals as goal

pub returns-then-first_stands : goal.returns-then-first_stands
returns-then-first_stands t c =
    let ls = letters_of c.args.pieces.now in
    let bound = c.args.bound.now in
    let choices = c.args.choices.now in
    let first = c.first-item.result in
    let later = take (length choices - 1) (drop 1 choices) in
    let same : later ≡ drop 1 choices = take_all (length choices - 1) (drop 1 choices) (omega (arith, length-drop 1 choices)) in
    let some : 0 < length choices = omega (arith, c.in-len1-up.len_at_least) in
    c.loop-value.invariant
    ∙ ap (λ (vs : List (List ℕ)). c.args.texts.now ++ flat_map (λ (v : List ℕ). combined ls (bound ++ record { name = first.name; value = v } ∷ []) later) vs)
    (take_all c.loop-value.value-index c.as_slice-values.result.now c.loop-value-test.false ∙ c.as_slice-values.ensures)
    ∙ ap (λ (ts : List (List ℕ)). c.args.texts.now ++ ts)
    (combined_found ls bound choices later first c.stands-first_stands.result same some c.first-item.is (c.stands-first_stands.ensures ∙ ap (λ (n : List ℕ). stands ls n) c.as_str.ensures) c.if-first_stands.true)

pub returns-else-first_stands : goal.returns-else-first_stands
returns-else-first_stands t c =
    let ls = letters_of c.args.pieces.now in
    let bound = c.args.bound.now in
    let choices = c.args.choices.now in
    let later = take (length choices - 1) (drop 1 choices) in
    let same : later ≡ drop 1 choices = take_all (length choices - 1) (drop 1 choices) (omega (arith, length-drop 1 choices)) in
    let some : 0 < length choices = omega (arith, c.in-len1-up.len_at_least) in
    subst (λ (ts : List (List ℕ)). OnOk c.combine-in-len1-up.result (c.combine-in-len1-up.new.texts ≡ c.args.texts.now ++ ts))
    (combined_passed ls bound choices later c.first-item.result c.stands-first_stands.result same some c.first-item.is (c.stands-first_stands.ensures ∙ ap (λ (n : List ℕ). stands ls n) c.as_str.ensures) c.if-first_stands.false)
    c.combine-in-len1-up.ensures
