-- How a template is read, symbol by symbol.
use Rattle.std.proofs.Common.{◌≡◌, ℕ, zero, suc, ◌+◌, ◌<◌, ◌≤◌, ◌==◌, ◌||◌, ◌&&◌, Bool, true, false, cond, List, [], ◌∷◌, ◌++◌, take, drop, map, length, get_or, refl, ap, sym, ◌∙◌, arith, append-nil, add-one}
use Rattle.std.proofs.lemmas.Bool.Decides.{nat_tests}
use Rattle.std.proofs.lemmas.Bool.{ne_eqb}
use Rattle.smk_template.specs.Templates.{Text, Symbol, Plain, Field, Loose, is_brace, first_brace, is_closed, is_doubled, opened, opened_more, undoubled, undoubled_more, symbols_after, symbols}

pub symbols_skipped : (k : ℕ) (t : Text) → symbols_after k t ≡ symbols (drop k t)
symbols_skipped zero t = refl
symbols_skipped (suc k) [] = refl
symbols_skipped (suc k) (b ∷ t) = symbols_skipped k t

-- a byte that is no brace stands for itself
pub plain_first : (b : ℕ) (t : Text) → is_brace b ≡ false → symbols (b ∷ t) ≡ Plain b ∷ symbols t
plain_first b t e = ap (λ (v : Bool). cond v (cond (is_doubled b t) (Plain b) (undoubled b t)) (Plain b) ∷ symbols_after (cond v (cond (is_doubled b t) 1 (undoubled_more b t)) 0) t) e

before_step : (b : ℕ) (t : Text) (v : Bool) → is_brace b ≡ v → symbols t ≡ map Plain (take (first_brace t) t) ++ symbols (drop (first_brace t) t)
    → symbols (b ∷ t) ≡ map Plain (take (cond v 0 (suc (first_brace t))) (b ∷ t)) ++ symbols (drop (cond v 0 (suc (first_brace t))) (b ∷ t))
before_step b t true e h = refl
before_step b t false e h = plain_first b t e ∙ ap (λ (ss : List Symbol). Plain b ∷ ss) h

-- up to the first brace each byte stands for itself
pub symbols_before : (t : Text) → symbols t ≡ map Plain (take (first_brace t) t) ++ symbols (drop (first_brace t) t)
symbols_before [] = refl
symbols_before (b ∷ t) = before_step b t (is_brace b) refl (symbols_before t)

-- a brace, with what follows it
brace_first : (b : ℕ) (t : Text) → is_brace b ≡ true → symbols (b ∷ t) ≡ cond (is_doubled b t) (Plain b) (undoubled b t) ∷ symbols (drop (cond (is_doubled b t) 1 (undoubled_more b t)) t)
brace_first b t e =
    ap (λ (v : Bool). cond v (cond (is_doubled b t) (Plain b) (undoubled b t)) (Plain b) ∷ symbols_after (cond v (cond (is_doubled b t) 1 (undoubled_more b t)) 0) t) e
    ∙ ap (λ (ss : List Symbol). cond (is_doubled b t) (Plain b) (undoubled b t) ∷ ss) (symbols_skipped (cond (is_doubled b t) 1 (undoubled_more b t)) t)

alone : (b : ℕ) (t : Text) → is_brace b ≡ true → is_doubled b t ≡ false → symbols (b ∷ t) ≡ undoubled b t ∷ symbols (drop (undoubled_more b t) t)
alone b t e d = brace_first b t e ∙ ap (λ (v : Bool). cond v (Plain b) (undoubled b t) ∷ symbols (drop (cond v 1 (undoubled_more b t)) t)) d

opening : (t : Text) (k : ℕ) → k ≡ first_brace t → is_doubled 123 t ≡ false → symbols (123 ∷ t) ≡ opened t k ∷ symbols (drop (opened_more t k) t)
opening t k f d = alone 123 t refl d ∙ ap (λ (n : ℕ). opened t n ∷ symbols (drop (opened_more t n) t)) (sym f)

pub field_first : (t : Text) (k : ℕ) → k ≡ first_brace t → is_doubled 123 t ≡ false → is_closed t k ≡ true → symbols (123 ∷ t) ≡ Field (take k t) ∷ symbols (drop (k + 1) t)
field_first t k f d e =
    opening t k f d
    ∙ ap (λ (v : Bool). cond v (Field (take k t)) (Loose (123 ∷ take k t)) ∷ symbols (drop (cond v (suc k) k) t)) e
    ∙ ap (λ (n : ℕ). Field (take k t) ∷ symbols (drop n t)) (sym (add-one k))

pub unclosed_first : (t : Text) (k : ℕ) → k ≡ first_brace t → is_doubled 123 t ≡ false → is_closed t k ≡ false → symbols (123 ∷ t) ≡ Loose (123 ∷ take k t) ∷ symbols (drop k t)
unclosed_first t k f d e =
    opening t k f d
    ∙ ap (λ (v : Bool). cond v (Field (take k t)) (Loose (123 ∷ take k t)) ∷ symbols (drop (cond v (suc k) k) t)) e

pub first_and_rest : (text after : Text) (b : ℕ) → 0 < length text → b ≡ get_or text 0 0 → after ≡ drop 1 text → text ≡ b ∷ after
first_and_rest [] after b lt e d = absurd (omega arith)
first_and_rest (c ∷ t) after b lt e d = ap (λ (x : ℕ). x ∷ t) (sym e) ∙ ap (λ (x : Text). b ∷ x) (sym d)

pub brace_small : (b : ℕ) → is_brace b ≡ true → b < 128
brace_small b e = grind (arith, nat_tests)

-- a byte stands within a text
pub within_by_byte : (t : Text) (k : ℕ) → get_or t k 0 ≡ 125 → k < length t
within_by_byte [] k e = absurd (omega (arith, e))
within_by_byte (b ∷ t) zero e = omega arith
within_by_byte (b ∷ t) (suc k) e = let more = within_by_byte t k e in omega (arith, more)

pub closed_by_byte : (b k : ℕ) (t : Text) → b ≡ get_or t k 0 → b ≡ 125 → is_closed t k ≡ true
closed_by_byte b k t e f = ap (λ (x : ℕ). x == 125) (sym e ∙ f)

pub open_by_byte : (b k : ℕ) (t : Text) → b ≡ get_or t k 0 → (b ≡ 125 → ⊥) → is_closed t k ≡ false
open_by_byte b k t e f = ne_eqb (get_or t k 0) 125 (λ h. f (e ∙ h))

-- the brace and what stands before the next one
pub brace_and : (text after cut : Text) (k : ℕ) → text ≡ 123 ∷ after → cut ≡ take (k + 1) text → 123 ∷ take k after ≡ cut
brace_and text after cut k e c = sym (c ∙ ap (λ (t : Text). take (k + 1) t) e ∙ ap (λ (n : ℕ). take n (123 ∷ after)) (add-one k))
