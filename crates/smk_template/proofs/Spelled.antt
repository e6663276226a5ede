-- A template is spelled by its symbols.
use Rattle.std.proofs.Common.{◌≡◌, ℕ, zero, suc, ◌==◌, ◌<◌, Bool, true, false, cond, List, [], ◌∷◌, ◌++◌, take, drop, get_or, refl, ap, sym, ◌∙◌, arith}
use Rattle.std.proofs.lemmas.Bool.Decides.{nat_tests}
use Rattle.std.proofs.lemmas.Bool.{eqb-true}
use Rattle.std.proofs.lemmas.List.{take-append-drop}
use Rattle.smk_template.proofs.Read.{plain_first}
use Rattle.smk_template.specs.Templates.{Text, Symbol, Plain, Field, Loose, is_brace, first_brace, is_closed, is_doubled, opened, opened_more, undoubled, undoubled_more, symbol_at, more_at, symbols_after, symbols, spelled, template_of}

-- one more byte, which has this value
next_byte : (t : Text) (k b : ℕ) → 0 < b → get_or t k 0 ≡ b → take (suc k) t ≡ take k t ++ b ∷ []
next_byte [] k b lt e = absurd (omega (arith, lt, e))
next_byte (c ∷ t) zero b lt e = ap (λ (x : ℕ). x ∷ []) e
next_byte (c ∷ t) (suc k) b lt e = ap (λ (x : Text). c ∷ x) (next_byte t k b lt e)

opened_spelled : (t : Text) (k : ℕ) (v : Bool) → is_closed t k ≡ v
    → spelled (cond v (Field (take k t)) (Loose (123 ∷ take k t))) ≡ 123 ∷ take (cond v (suc k) k) t
opened_spelled t k true e = ap (λ (x : Text). 123 ∷ x) (sym (next_byte t k 125 (omega arith) (grind (arith, nat_tests))))
opened_spelled t k false e = refl

brace_some : (b : ℕ) → is_brace b ≡ true → 0 < b
brace_some b e = grind (arith, nat_tests)

same_first : (t : Text) (b : ℕ) → is_doubled b t ≡ true → get_or t 0 0 ≡ b
same_first t b e = eqb-true (get_or t 0 0) b e

undoubled_spelled : (b : ℕ) (t : Text) (v : Bool) → (b == 123) ≡ v
    → spelled (cond v (opened t (first_brace t)) (Loose (b ∷ []))) ≡ b ∷ take (cond v (opened_more t (first_brace t)) 0) t
undoubled_spelled b t true e =
    opened_spelled t (first_brace t) (is_closed t (first_brace t)) refl
    ∙ ap (λ (x : ℕ). x ∷ take (opened_more t (first_brace t)) t) (sym (eqb-true b 123 e))
undoubled_spelled b t false e = refl

brace_spelled : (b : ℕ) (t : Text) (v : Bool) → is_brace b ≡ true → is_doubled b t ≡ v
    → spelled (cond v (Plain b) (undoubled b t)) ≡ b ∷ take (cond v 1 (undoubled_more b t)) t
brace_spelled b t true e d =
    ap (λ (v : Bool). cond v (b ∷ b ∷ []) (b ∷ [])) e
    ∙ ap (λ (x : Text). b ∷ x) (sym (next_byte t 0 b (brace_some b e) (same_first t b d)))
brace_spelled b t false e d = undoubled_spelled b t (b == 123) refl

symbol_by : (b : ℕ) (t : Text) (v : Bool) → is_brace b ≡ v
    → spelled (cond v (cond (is_doubled b t) (Plain b) (undoubled b t)) (Plain b)) ≡ b ∷ take (cond v (cond (is_doubled b t) 1 (undoubled_more b t)) 0) t
symbol_by b t true e = brace_spelled b t (is_doubled b t) e refl
symbol_by b t false e = ap (λ (v : Bool). cond v (b ∷ b ∷ []) (b ∷ [])) e

-- a symbol is spelled as it stands there
symbol_spelled : (b : ℕ) (t : Text) → spelled (symbol_at b t) ≡ b ∷ take (more_at b t) t
symbol_spelled b t = symbol_by b t (is_brace b) refl

spelled_after : (k : ℕ) (t : Text) → template_of (symbols_after k t) ≡ drop k t
spelled_after zero [] = refl
spelled_after (suc k) [] = refl
spelled_after (suc k) (b ∷ t) = spelled_after k t
spelled_after zero (b ∷ t) =
    ap (λ (x : Text). x ++ template_of (symbols_after (more_at b t) t)) (symbol_spelled b t)
    ∙ ap (λ (x : Text). b ∷ (take (more_at b t) t ++ x)) (spelled_after (more_at b t) t)
    ∙ ap (λ (x : Text). b ∷ x) (take-append-drop (more_at b t) t)

-- what a template has is spelled as the template
pub template_again : (t : Text) → template_of (symbols t) ≡ t
template_again t = spelled_after 0 t

-- bytes before the first brace are spelled as they are
front_by : (b : ℕ) (t : Text) (v : Bool) → is_brace b ≡ v → (f : List Symbol → Text)
    → ((c : ℕ) (ss : List Symbol) → is_brace c ≡ false → f (Plain c ∷ ss) ≡ c ∷ f ss)
    → f (symbols t) ≡ take (first_brace t) t ++ f (symbols (drop (first_brace t) t))
    → f (symbols (b ∷ t)) ≡ take (cond v 0 (suc (first_brace t))) (b ∷ t) ++ f (symbols (drop (cond v 0 (suc (first_brace t))) (b ∷ t)))
front_by b t true e f plain more = refl
front_by b t false e f plain more = ap f (plain_first b t e) ∙ plain b (symbols t) e ∙ ap (λ (x : Text). b ∷ x) more

-- What is made of symbols one after the other, with a byte that is no brace as it is, is what stands before the first brace and then the rest.
pub walked_front : (f : List Symbol → Text) → f [] ≡ [] → ((c : ℕ) (ss : List Symbol) → is_brace c ≡ false → f (Plain c ∷ ss) ≡ c ∷ f ss)
    → (t : Text) → f (symbols t) ≡ take (first_brace t) t ++ f (symbols (drop (first_brace t) t))
walked_front f none plain [] = none ∙ sym none
walked_front f none plain (b ∷ t) = front_by b t (is_brace b) refl f plain (walked_front f none plain t)
