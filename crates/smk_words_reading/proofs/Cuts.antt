-- Texts that are cut at a sign.
use native.Mathlib.Omega.{arith}
use Rattle.std.proofs.Common.{◌≡◌, ◌≢◌, ℕ, suc, ◌<◌, Bool, true, false, cond, not, [], ◌∷◌, ◌++◌, length, get_or, Option, Some, None, option_map, refl, sym, ◌∙◌, ap, subst, ◌==◌, MatchOption, Bor}
use Rattle.std.specs.List.{list_all}
use Rattle.std.proofs.lemmas.Bool.{eqb-true, eq-eqb, ne_eqb, cond-true, cond-false, and_parts, and_from, not-true, not_from_false}
use Rattle.std.proofs.lemmas.Option.{none-some, some_pair_parts}
use Rattle.std.proofs.lemmas.Str.Pattern.{IsSplitOnceResult, split_parts}
use Rattle.smk_words_reading.specs.Words.{Text}
use Rattle.smk_words_reading.specs.Reading.{split_at}

-- the text has no such byte
abbrev pub lacks : ℕ → Text → Bool
lacks c text = list_all (λ b. not (b == c)) text

cut_step : (c b : ℕ) (t n v : Text) (x : Bool) (o : Option (Text × Text)) →
    (b == c) ≡ x →
    ((p : Text × Text) → o ≡ Some p → t ≡ p.0 ++ c ∷ p.1) → cond {A = Option (Text × Text)} x (Some ([], t)) (option_map (λ (p : Text × Text). (b ∷ p.0, p.1)) o) ≡ Some (n, v) → b ∷ t ≡ n ++ c ∷ v
cut_step c b t n v true o e more f =
    let parts = some_pair_parts [] n t v f in
    subst (λ (m : Text). b ∷ t ≡ m ++ c ∷ v) parts.0 (ap (λ z. z ∷ t) (eqb-true b c e) ∙ ap (λ (w : Text). c ∷ w) parts.1)
cut_step c b t n v false None e more f = absurd (none-some (n, v) f)
cut_step c b t n v false (Some p) e more f =
    let parts = some_pair_parts (b ∷ p.0) n p.1 v f in
    subst (λ (m : Text). b ∷ t ≡ m ++ c ∷ v) parts.0 (ap (λ (w : Text). b ∷ w) (more p refl) ∙ ap (λ (w : Text). b ∷ (p.0 ++ c ∷ w)) parts.1)

-- what a text is cut into makes the text
pub cut_is : (c : ℕ) (t n v : Text) → split_at c t ≡ Some (n, v) → t ≡ n ++ c ∷ v
cut_is c [] n v e = absurd (none-some (n, v) e)
cut_is c (b ∷ t) n v e = cut_step c b t n v (b == c) (split_at c t) refl (λ p f. cut_is c t p.0 p.1 f) e

-- a text is cut at the first sign
pub cut_at : (c : ℕ) (n v : Text) → lacks c n ≡ true → split_at c (n ++ c ∷ v) ≡ Some (n, v)
cut_at c [] v e = cond-true (c == c) (Some ([], v)) (option_map (λ (p : Text × Text). (c ∷ p.0, p.1)) (split_at c v)) (eq-eqb c c refl)
cut_at c (b ∷ n) v e =
    let parts = and_parts (not (b == c)) (lacks c n) e in
    cond-false (b == c) (Some ([], n ++ c ∷ v)) (option_map (λ (p : Text × Text). (b ∷ p.0, p.1)) (split_at c (n ++ c ∷ v))) (not-true (b == c) parts.0)
    ∙ ap (option_map (λ (p : Text × Text). (b ∷ p.0, p.1))) (cut_at c n v parts.1)

no_cut : (c : ℕ) (t : Text) → lacks c t ≡ true → split_at c t ≡ None
no_cut c [] e = refl
no_cut c (b ∷ t) e =
    let parts = and_parts (not (b == c)) (lacks c t) e in
    cond-false (b == c) (Some ([], t)) (option_map (λ (p : Text × Text). (b ∷ p.0, p.1)) (split_at c t)) (not-true (b == c) parts.0)
    ∙ ap (option_map (λ (p : Text × Text). (b ∷ p.0, p.1))) (no_cut c t parts.1)

pub lacks_each : (c : ℕ) (n : Text) → ((i : ℕ) → i < length n → get_or n i 0 ≢ c) → lacks c n ≡ true
lacks_each c [] h = refl
lacks_each c (b ∷ n) h =
    and_from (not (b == c)) (lacks c n) (not_from_false (b == c) (ne_eqb b c (h 0 (omega arith))))
    (lacks_each c n (λ i l. h (suc i) (omega (arith, l))))

-- the code's cut is this one
pub cut_found : (c : ℕ) (t : Text) (r : Option (Bor Text × Bor Text)) →
    IsSplitOnceResult c t r → c < 128 → option_map (λ (p : Bor Text × Bor Text). (p.0.now, p.1.now)) r ≡ split_at c t
cut_found c t r h small = go r (split_parts c t r h small)
  where
    go : (r : Option (Bor Text × Bor Text)) →
        MatchOption r ((i : ℕ) → i < length t → get_or t i 0 ≢ c) (λ x. (t ≡ x.0.now ++ (c ∷ x.1.now)) × ((i : ℕ) → i < length x.0.now → get_or x.0.now i 0 ≢ c)) →
        option_map (λ (p : Bor Text × Bor Text). (p.0.now, p.1.now)) r ≡ split_at c t
    go None f = sym (no_cut c t (lacks_each c t f))
    go (Some x) f = sym (ap (split_at c) f.0 ∙ cut_at c x.0.now x.1.now (lacks_each c x.0.now f.1))
