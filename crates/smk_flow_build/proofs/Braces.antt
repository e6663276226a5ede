-- A text that is looked through for names in braces, one byte after another.
use Rattle.std.proofs.Common.{◌≡◌, ℕ, ◌+◌, ◌-◌, ◌<◌, ◌≤◌, ◌==◌, List, [], ◌∷◌, ◌++◌, length, take, drop, get_or, Option, Some, None, option_map, cond, Bool, true, false, refl, sym, ap, subst, ◌∙◌, arith, append_assoc, IsCharBoundary, IsUtf8}
use Rattle.std.proofs.lemmas.List.{at_drop_more}
use Rattle.std.proofs.lemmas.Bool.Decides.{nat_tests}
use Rattle.std.proofs.lemmas.Str.{IsCharBoundary-after_ascii}
use Rattle.smk_pattern.specs.Shapes.{Text}
use Rattle.smk_pattern.specs.Splitting.{between}
use Rattle.smk_pattern.proofs.Split.{between_more}
use Rattle.smk_flow.specs.Begun.{begun_of, brace_after}
use Rattle.smk_flow.specs.Checks.{begun_after, closing, names_after}

begun_step : (t : Text) (at b : ℕ) (o : Option ℕ) → at < length t → get_or t at 0 ≡ b → ((s : ℕ) → o ≡ Some s → s < at) →
    begun_after b (begun_of t at o) ≡ begun_of t (at + 1) (brace_after b at o)
begun_step t at b o lt e h = go (b == 123) (b == 125) o h
  where
    go : (x y : Bool) (o : Option ℕ) → ((s : ℕ) → o ≡ Some s → s < at) →
        cond x (Some []) (cond y None (option_map (λ (u : Text). u ++ b ∷ []) (begun_of t at o))) ≡ begun_of t (at + 1) (cond x (Some at) (cond y None o))
    go true y o h = let z : 0 ≡ at + 1 - (at + 1) = omega arith in ap (λ (k : ℕ). Some (take k (drop (at + 1) t))) z
    go false true o h = refl
    go false false None h = refl
    go false false (Some s) h =
        let le = h s refl in
        let w : s + 1 ≤ at = omega (arith, le) in
        ap (λ (u : Text). Some u) (sym (between_more (s + 1) at t w lt ∙ ap (λ (x : ℕ). between (s + 1) at t ++ x ∷ []) e))

pub names_step : (names more w : List Text) (t : Text) (at b : ℕ) (o : Option ℕ) → at < length t → get_or t at 0 ≡ b → ((s : ℕ) → o ≡ Some s → s < at) →
    more ≡ names ++ closing b (begun_of t at o) → names ++ names_after (drop at t) (begun_of t at o) ≡ w →
    more ++ names_after (drop (at + 1) t) (begun_of t (at + 1) (brace_after b at o)) ≡ w
names_step names more w t at b o lt e h made whole =
    let rest = drop (at + 1) t in
    let begun = begun_of t at o in
    let now = names_after rest (begun_of t (at + 1) (brace_after b at o)) in
    let split : drop at t ≡ b ∷ rest = at_drop_more (λ (xs : Text). xs) t at 0 lt ∙ ap (λ (x : ℕ). x ∷ rest) e in
    ap (λ (ns : List Text). ns ++ now) made
    ∙ append_assoc names (closing b begun) now
    ∙ ap (λ (u : Option Text). names ++ (closing b begun ++ names_after rest u)) (sym (begun_step t at b o lt e h))
    ∙ ap (λ (xs : Text). names ++ names_after xs begun) (sym split)
    ∙ whole

small : (b : ℕ) → (b == 123) ≡ true → b < 128
small b e = grind (arith, nat_tests)

pub brace_step : (t : Text) (at b : ℕ) (o : Option ℕ) → IsUtf8 t → at < length t → get_or t at 0 ≡ b → ((s : ℕ) → o ≡ Some s → (s < at) × IsCharBoundary t (s + 1)) →
    (s : ℕ) → brace_after b at o ≡ Some s → (s < at + 1) × IsCharBoundary t (s + 1)
brace_step t at b o utf8 lt e h s is = go (b == 123) (b == 125) refl is
  where
    go : (x y : Bool) → (b == 123) ≡ x → cond x (Some at) (cond y None o) ≡ Some s → (s < at + 1) × IsCharBoundary t (s + 1)
    go true y f is =
        let same : at ≡ s = cc in
        let ascii : get_or t at 0 < 128 = subst (λ (k : ℕ). k < 128) (sym e) (small b f) in
        subst (λ (k : ℕ). (k < at + 1) × IsCharBoundary t (k + 1)) same (omega arith, IsCharBoundary-after_ascii t at utf8 lt ascii)
    go false true f is = absurd (cc)
    go false false f is = let g = h s is in let le = g.0 in (omega (arith, le), g.1)
