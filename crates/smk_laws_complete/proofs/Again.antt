-- Symbols that are spelled are read again.
use Rattle.std.proofs.Common.{◌≡◌, ℕ, zero, suc, ◌+◌, ◌==◌, Bool, true, false, cond, List, [], ◌∷◌, ◌++◌, take, drop, length, refl, ap, sym, ◌∙◌, append_assoc, add-one, arith}
use Rattle.std.proofs.lemmas.Bool.Decides.{nat_tests}
use Rattle.std.proofs.lemmas.Bool.{eq-eqb}
use Rattle.smk_template.specs.Templates.{Text, Symbol, Plain, Field, Loose, is_brace, first_brace, is_closed, is_doubled, opened, undoubled, undoubled_more, more_at, symbols_after, symbols, template_of}
use Rattle.smk_template.proofs.Read.{field_first, plain_first, symbols_skipped}

-- no brace stands in it
abbrev pub HasNoBrace : Text → Type 0
HasNoBrace t = first_brace t ≡ length t

-- a byte, or a field without braces in it
abbrev pub IsSpelled : Symbol → Type 0
IsSpelled (Plain b) = Unit {0}
IsSpelled (Field field) = HasNoBrace field
IsSpelled (Loose text) = ⊥

abbrev pub AreSpelled : List Symbol → Type 0
AreSpelled [] = Unit {0}
AreSpelled (s ∷ ss) = IsSpelled s × AreSpelled ss

-- ## Texts without braces

no_brace_by : (b : ℕ) (t : Text) (v : Bool) → cond v 0 (suc (first_brace t)) ≡ suc (length t) → (v ≡ false) × HasNoBrace t
no_brace_by b t true e = absurd (omega (arith, e))
no_brace_by b t false e = (refl, omega (arith, e))

pub no_brace_parts : (b : ℕ) (t : Text) → HasNoBrace (b ∷ t) → (is_brace b ≡ false) × HasNoBrace t
no_brace_parts b t h = no_brace_by b t (is_brace b) h

pub no_brace_more : (b : ℕ) (t : Text) → is_brace b ≡ false → HasNoBrace t → HasNoBrace (b ∷ t)
no_brace_more b t e h = ap (λ (v : Bool). cond v 0 (suc (first_brace t))) e ∙ ap suc h

pub no_brace_both : (t u : Text) → HasNoBrace t → HasNoBrace u → HasNoBrace (t ++ u)
no_brace_both [] u h more = more
no_brace_both (b ∷ t) u h more =
    let parts = no_brace_parts b t h in
    no_brace_more b (t ++ u) parts.0 (no_brace_both t u parts.1 more)

front_by : (b : ℕ) (t : Text) (v : Bool) → is_brace b ≡ v → HasNoBrace (take (first_brace t) t) → HasNoBrace (take (cond v 0 (suc (first_brace t))) (b ∷ t))
front_by b t true e h = refl
front_by b t false e h = no_brace_more b (take (first_brace t) t) e h

-- none stands before the first one
pub front_no_brace : (t : Text) → HasNoBrace (take (first_brace t) t)
front_no_brace [] = refl
front_no_brace (b ∷ t) = front_by b t (is_brace b) refl (front_no_brace t)

-- ## What is read again

brace_first : (b : ℕ) (t : Text) → is_brace b ≡ true → symbols (b ∷ t) ≡ cond (is_doubled b t) (Plain b) (undoubled b t) ∷ symbols (drop (cond (is_doubled b t) 1 (undoubled_more b t)) t)
brace_first b t e =
    ap (λ (v : Bool). cond v (cond (is_doubled b t) (Plain b) (undoubled b t)) (Plain b) ∷ symbols_after (cond v (cond (is_doubled b t) 1 (undoubled_more b t)) 0) t) e
    ∙ ap (λ (ss : List Symbol). cond (is_doubled b t) (Plain b) (undoubled b t) ∷ ss) (symbols_skipped (cond (is_doubled b t) 1 (undoubled_more b t)) t)

doubled_first : (b : ℕ) (t : Text) → is_brace b ≡ true → symbols (b ∷ (b ∷ t)) ≡ Plain b ∷ symbols t
doubled_first b t e =
    brace_first b (b ∷ t) e
    ∙ ap (λ (v : Bool). cond v (Plain b) (undoubled b (b ∷ t)) ∷ symbols (drop (cond v 1 (undoubled_more b (b ∷ t))) (b ∷ t))) (eq-eqb b b refl)

plain_again : (b : ℕ) (t : Text) (v : Bool) → is_brace b ≡ v → symbols (cond v (b ∷ b ∷ []) (b ∷ []) ++ t) ≡ Plain b ∷ symbols t
plain_again b t true e = doubled_first b t e
plain_again b t false e = plain_first b t e

-- a field and its closing brace
closes_at : (field rest : Text) → HasNoBrace field → first_brace (field ++ 125 ∷ rest) ≡ length field
closes_at [] rest h = refl
closes_at (b ∷ field) rest h =
    let parts = no_brace_parts b field h in
    ap (λ (v : Bool). cond v 0 (suc (first_brace (field ++ 125 ∷ rest)))) parts.0 ∙ ap suc (closes_at field rest parts.1)

closed_there : (field rest : Text) → is_closed (field ++ 125 ∷ rest) (length field) ≡ true
closed_there [] rest = refl
closed_there (b ∷ field) rest = closed_there field rest

field_there : (field rest : Text) → take (length field) (field ++ 125 ∷ rest) ≡ field
field_there [] rest = refl
field_there (b ∷ field) rest = ap (λ (t : Text). b ∷ t) (field_there field rest)

rest_there : (field rest : Text) → drop (suc (length field)) (field ++ 125 ∷ rest) ≡ rest
rest_there [] rest = refl
rest_there (b ∷ field) rest = rest_there field rest

not_brace_not_it : (b : ℕ) → is_brace b ≡ false → (b == 123) ≡ false
not_brace_not_it b e = grind (arith, nat_tests)

alone_there : (field rest : Text) → HasNoBrace field → is_doubled 123 (field ++ 125 ∷ rest) ≡ false
alone_there [] rest h = refl
alone_there (b ∷ field) rest h = not_brace_not_it b (no_brace_parts b field h).0

field_again : (field rest : Text) → HasNoBrace field → symbols (123 ∷ (field ++ 125 ∷ rest)) ≡ Field field ∷ symbols rest
field_again field rest h =
    field_first (field ++ 125 ∷ rest) (length field) (sym (closes_at field rest h)) (alone_there field rest h) (closed_there field rest)
    ∙ ap (λ (t : Text). Field t ∷ symbols (drop (length field + 1) (field ++ 125 ∷ rest))) (field_there field rest)
    ∙ ap (λ (n : ℕ). Field field ∷ symbols (drop n (field ++ 125 ∷ rest))) (add-one (length field))
    ∙ ap (λ (t : Text). Field field ∷ symbols t) (rest_there field rest)

-- bytes and fields, spelled, are read again
pub symbols_again : (ss : List Symbol) → AreSpelled ss → symbols (template_of ss) ≡ ss
symbols_again [] all = refl
symbols_again (Plain b ∷ ss) (one, all) = plain_again b (template_of ss) (is_brace b) refl ∙ ap (λ (xs : List Symbol). Plain b ∷ xs) (symbols_again ss all)
symbols_again (Field field ∷ ss) (one, all) =
    ap (λ (t : Text). symbols (123 ∷ t)) (append_assoc field (125 ∷ []) (template_of ss))
    ∙ field_again field (template_of ss) one
    ∙ ap (λ (xs : List Symbol). Field field ∷ xs) (symbols_again ss all)
symbols_again (Loose text ∷ ss) (one, all) = absurd one

-- ## What is read

-- a field without braces in it
abbrev pub IsFit : Symbol → Type 0
IsFit (Plain b) = Unit {0}
IsFit (Field field) = HasNoBrace field
IsFit (Loose text) = Unit {0}

abbrev pub AreFit : List Symbol → Type 0
AreFit [] = Unit {0}
AreFit (s ∷ ss) = IsFit s × AreFit ss

opened_fit : (t : Text) (v : Bool) → IsFit (cond v (Field (take (first_brace t) t)) (Loose (123 ∷ take (first_brace t) t)))
opened_fit t true = front_no_brace t
opened_fit t false = tt

undoubled_fit : (b : ℕ) (t : Text) (v : Bool) → IsFit (cond v (opened t (first_brace t)) (Loose (b ∷ [])))
undoubled_fit b t true = opened_fit t (is_closed t (first_brace t))
undoubled_fit b t false = tt

brace_fit : (b : ℕ) (t : Text) (v : Bool) → IsFit (cond v (Plain b) (undoubled b t))
brace_fit b t true = tt
brace_fit b t false = undoubled_fit b t (b == 123)

symbol_fit : (b : ℕ) (t : Text) (v : Bool) → IsFit (cond v (cond (is_doubled b t) (Plain b) (undoubled b t)) (Plain b))
symbol_fit b t true = brace_fit b t (is_doubled b t)
symbol_fit b t false = tt

fit_after : (k : ℕ) (t : Text) → AreFit (symbols_after k t)
fit_after zero [] = tt
fit_after (suc k) [] = tt
fit_after (suc k) (b ∷ t) = fit_after k t
fit_after zero (b ∷ t) = (symbol_fit b t (is_brace b), fit_after (more_at b t) t)

-- no brace stands in a field that is read
pub symbols_fit : (t : Text) → AreFit (symbols t)
symbols_fit t = fit_after 0 t
