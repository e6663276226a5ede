-- The pieces that are computed for a text are those that spell it.
use Rattle.std.proofs.Common.{◌≡◌, ℕ, zero, suc, ◌<◌, ◌≤◌, ◌⊎◌, ◌==◌, ◌&&◌, ◌||◌, inl, inr, List, [], ◌∷◌, ◌++◌, length, reverse, Option, Some, None, cond, not, Bool, true, false, refl, sym, ap, ap₂, subst, ◌∙◌, arith, append-nil, append_assoc, true≢false}
use Rattle.std.specs.List.{list_all}
use Rattle.std.specs.Int.{is_in_range}
use Rattle.std.proofs.lemmas.Bool.{eqb-true, and_parts, and_from, not-true}
use Rattle.std.proofs.lemmas.Bool.Decides.{nat_tests}
use Rattle.std.proofs.lemmas.List.{reverse-append, reverse-reverse, length-reverse}
use Rattle.std.proofs.lemmas.List.Folds.{list_all-append}
use Rattle.smk_pattern.specs.Shapes.{Text}
use Rattle.smk_pattern.specs.Grammar.{Piece, plain, hole, is_brace, is_blank, is_letter, is_name, is_balanced, starts_with_blank, starts_plain, is_plain, IsNamed, Spells, SpellsAll}
use Rattle.smk_pattern.specs.Reading.{trimmed, stripped, before_comma, after_comma, plain_of, hole_of, depth_after, held_after, pieces_from, pieces}
use Rattle.smk_pattern.specs.Written.{is_named}
use Rattle.smk_pattern.proofs.Split.{Takes, takes_other, plain_of_all}

-- ---- tests

abbrev no_brace : ℕ → Bool
no_brace b = not (is_brace b)

abbrev no_comma : ℕ → Bool
no_comma b = not (b == 44)

abbrev no_blank : ℕ → Bool
no_blank b = not (is_blank b)

abbrev in_name : ℕ → Bool
in_name b = is_letter b || is_in_range 48 57 b

letter_is : (b : ℕ) → is_letter b ≡ true → in_name b ≡ true
letter_is b e = ap (λ t. t || is_in_range 48 57 b) e

-- what a byte of a name isn't
in_name_high : (b : ℕ) → in_name b ≡ true → (48 ≤ b) × (b ≤ 122)
in_name_high b e = (grind (arith, nat_tests), grind (arith, nat_tests))

blank_low : (b : ℕ) → is_blank b ≡ true → b ≤ 32
blank_low b e = grind (arith, nat_tests)

other_number : (b n : ℕ) → (b < n) ⊎ (n < b) → (b == n) ≡ false
other_number b n (inl h) = grind (arith, nat_tests)
other_number b n (inr h) = grind (arith, nat_tests)

not_either : (x y : Bool) → x ≡ false → y ≡ false → not (x || y) ≡ true
not_either true y e f = absurd (true≢false e)
not_either false y e f = ap not f

name_no_brace : (b : ℕ) → in_name b ≡ true → no_brace b ≡ true
name_no_brace b e = let h = in_name_high b e in not_either (b == 123) (b == 125) (other_number b 123 (inl (omega (arith, h.1)))) (other_number b 125 (inl (omega (arith, h.1))))

name_no_comma : (b : ℕ) → in_name b ≡ true → no_comma b ≡ true
name_no_comma b e = ap not (other_number b 44 (inr (omega (arith, (in_name_high b e).0))))

name_no_blank : (b : ℕ) → in_name b ≡ true → no_blank b ≡ true
name_no_blank b e = let h = in_name_high b e in not_either (b == 32) (b == 9) (other_number b 32 (inr (omega (arith, h.0)))) (other_number b 9 (inr (omega (arith, h.0))))

blank_no_brace : (b : ℕ) → is_blank b ≡ true → no_brace b ≡ true
blank_no_brace b e = let h = blank_low b e in not_either (b == 123) (b == 125) (other_number b 123 (inl (omega (arith, h)))) (other_number b 125 (inl (omega (arith, h))))

blank_no_comma : (b : ℕ) → is_blank b ≡ true → no_comma b ≡ true
blank_no_comma b e = ap not (other_number b 44 (inl (omega (arith, blank_low b e))))

all_too : (p q : ℕ → Bool) → ((b : ℕ) → p b ≡ true → q b ≡ true) → (t : Text) → list_all p t ≡ true → list_all q t ≡ true
all_too p q h [] e = refl
all_too p q h (b ∷ t) e = let x = and_parts (p b) (list_all p t) e in and_from (q b) (list_all q t) (h b x.0) (all_too p q h t x.1)

all_both : (p : ℕ → Bool) (s t : Text) → list_all p s ≡ true → list_all p t ≡ true → list_all p (s ++ t) ≡ true
all_both p s t e f = list_all-append p s t ∙ and_from (list_all p s) (list_all p t) e f

reverse_push : (b : ℕ) (held t : Text) → reverse (b ∷ held) ++ t ≡ reverse held ++ b ∷ t
reverse_push b held t = ap (λ x. x ++ t) (reverse-append (b ∷ []) held) ∙ append_assoc (reverse held) (b ∷ []) t

all_reverse : (p : ℕ → Bool) (t : Text) → list_all p t ≡ true → list_all p (reverse t) ≡ true
all_reverse p [] e = refl
all_reverse p (b ∷ t) e =
    let x = and_parts (p b) (list_all p t) e in
    ap (list_all p) (reverse-append (b ∷ []) t) ∙ all_both p (reverse t) (b ∷ []) (all_reverse p t x.1) (and_from (p b) true x.0 refl)

all_in_name : (name : Text) → is_name name ≡ true → list_all in_name name ≡ true
all_in_name [] e = absurd (true≢false (sym e))
all_in_name (b ∷ bs) e = let x = and_parts (is_letter b) (list_all in_name bs) e in and_from (in_name b) (list_all in_name bs) (letter_is b x.0) x.1

-- what stands between braces before a comma
all_outside : (p : ℕ → Bool) → ((b : ℕ) → is_blank b ≡ true → p b ≡ true) → ((b : ℕ) → in_name b ≡ true → p b ≡ true) → (name bytes : Text) → IsNamed name bytes → list_all p bytes ≡ true
all_outside p h g name bytes (before, after, bb, ba, n, e) =
    ap (list_all p) e ∙ all_both p (before ++ name) after (all_both p before name (all_too is_blank p h before bb) (all_too in_name p g name (all_in_name name n))) (all_too is_blank p h after ba)

-- ---- blanks

-- the blanks that are taken away in front
pub record Trims (t : Text) : Type 0 where
  pub blanks : Text
  pub are_blank : list_all is_blank blanks ≡ true
  pub is : t ≡ blanks ++ trimmed t

trims : (t : Text) → Trims t
trims [] = record { blanks = []; are_blank = refl; is = refl }
trims (b ∷ t) = by (is_blank b) refl (trims t)
  where
    by : (x : Bool) → is_blank b ≡ x → Trims t → Trims (b ∷ t)
    by true e r = record {
      blanks = b ∷ r.blanks;
      are_blank = and_from (is_blank b) (list_all is_blank r.blanks) e r.are_blank;
      is = ap (λ s. b ∷ s) r.is ∙ sym (ap (λ x. (b ∷ r.blanks) ++ cond x (trimmed t) (b ∷ t)) e);
    }
    by false e r = record { blanks = []; are_blank = refl; is = sym (ap (λ x. cond x (trimmed t) (b ∷ t)) e) }

trimmed_start : (t : Text) → starts_with_blank (trimmed t) ≡ false
trimmed_start [] = refl
trimmed_start (b ∷ t) = by (is_blank b) refl (trimmed_start t)
  where
    by : (x : Bool) → is_blank b ≡ x → starts_with_blank (trimmed t) ≡ false → starts_with_blank (cond (is_blank b) (trimmed t) (b ∷ t)) ≡ false
    by true e r = ap (λ x. starts_with_blank (cond x (trimmed t) (b ∷ t))) e ∙ r
    by false e r = ap (λ x. starts_with_blank (cond x (trimmed t) (b ∷ t))) e ∙ e

trimmed_blanks : (blanks t : Text) → list_all is_blank blanks ≡ true → trimmed (blanks ++ t) ≡ trimmed t
trimmed_blanks [] t e = refl
trimmed_blanks (b ∷ blanks) t e =
    let x = and_parts (is_blank b) (list_all is_blank blanks) e in
    ap (λ y. cond y (trimmed (blanks ++ t)) (b ∷ (blanks ++ t))) x.0 ∙ trimmed_blanks blanks t x.1

trimmed_none : (t : Text) → starts_with_blank t ≡ false → trimmed t ≡ t
trimmed_none [] e = refl
trimmed_none (b ∷ t) e = ap (λ y. cond y (trimmed t) (b ∷ t)) e

reversed : (s t : Text) → reverse s ≡ t → s ≡ reverse t
reversed s t e = sym (reverse-reverse s) ∙ ap reverse e

-- the blanks at both ends
named_stripped : (t : Text) → is_name (stripped t) ≡ true → IsNamed (stripped t) t
named_stripped t n =
    let a = trims t in
    let b = trims (reverse (trimmed t)) in
    let end : trimmed t ≡ stripped t ++ reverse b.blanks = reversed (trimmed t) (b.blanks ++ trimmed (reverse (trimmed t))) b.is ∙ reverse-append b.blanks (trimmed (reverse (trimmed t))) in (
      a.blanks,
      reverse b.blanks,
      a.are_blank,
      all_reverse is_blank b.blanks b.are_blank,
      n,
      a.is ∙ ap (λ s. a.blanks ++ s) end ∙ sym (append_assoc a.blanks (stripped t) (reverse b.blanks)),
    )

no_start : (t u : Text) → 0 < length t → list_all no_blank t ≡ true → starts_with_blank (t ++ u) ≡ false
no_start [] u lt e = absurd (omega (arith, lt))
no_start (b ∷ t) u lt e = by (is_blank b) (and_parts (no_blank b) (list_all no_blank t) e).0
  where
    by : (x : Bool) → not x ≡ true → x ≡ false
    by true e = absurd (true≢false (sym e))
    by false e = refl

name_some : (name : Text) → is_name name ≡ true → 0 < length name
name_some [] e = absurd (true≢false (sym e))
name_some (b ∷ bs) e = omega arith

stripped_named : (name bytes : Text) → IsNamed name bytes → stripped bytes ≡ name
stripped_named name bytes (before, after, bb, ba, n, e) =
    let all : list_all no_blank name ≡ true = all_too in_name no_blank name_no_blank name (all_in_name name n) in
    let some = name_some name n in
    let front : trimmed bytes ≡ name ++ after =
    ap trimmed (e ∙ append_assoc before name after) ∙ trimmed_blanks before (name ++ after) bb ∙ trimmed_none (name ++ after) (no_start name after some all) in
    let back : trimmed (reverse (trimmed bytes)) ≡ reverse name =
    ap trimmed (ap reverse front ∙ reverse-append name after) ∙ trimmed_blanks (reverse after) (reverse name) (all_reverse is_blank after ba)
    ∙ trimmed_none (reverse name) (sym (ap starts_with_blank (append-nil (reverse name))) ∙ no_start (reverse name) [] (omega (arith, some, length-reverse name)) (all_reverse no_blank name all)) in
    ap reverse back ∙ reverse-reverse name

-- ---- the comma

-- what a text is by its first comma
pub record AtComma (t : Text) (limit : Text) : Type 0 where
  pub rest : Text
  pub is : t ≡ before_comma t ++ 44 ∷ rest
  pub trimmed_rest : limit ≡ trimmed rest

at_comma : (t limit : Text) → after_comma t ≡ Some limit → AtComma t limit
at_comma [] limit e = absurd cc
at_comma (b ∷ t) limit e = by (b == 44) refl (at_comma t limit)
  where
    by : (x : Bool) → (b == 44) ≡ x → (after_comma t ≡ Some limit → AtComma t limit) → AtComma (b ∷ t) limit
    by true f later =
        let s : Some (trimmed t) ≡ Some limit = sym (ap (λ x. cond x (Some (trimmed t)) (after_comma t)) f) ∙ e in
        record {
          rest = t;
          is = ap (λ c. c ∷ t) (eqb-true b 44 f) ∙ sym (ap (λ x. cond x [] (b ∷ before_comma t) ++ 44 ∷ t) f);
          trimmed_rest = cc;
        }
    by false f later =
        let r = later (sym (ap (λ x. cond x (Some (trimmed t)) (after_comma t)) f) ∙ e) in
        record {
          rest = r.rest;
          is = ap (λ s. b ∷ s) r.is ∙ sym (ap (λ x. cond x [] (b ∷ before_comma t) ++ 44 ∷ r.rest) f);
          trimmed_rest = r.trimmed_rest;
        }

none_comma : (t : Text) → after_comma t ≡ None → before_comma t ≡ t
none_comma [] e = refl
none_comma (b ∷ t) e = by (b == 44) refl (none_comma t)
  where
    by : (x : Bool) → (b == 44) ≡ x → (after_comma t ≡ None → before_comma t ≡ t) → before_comma (b ∷ t) ≡ b ∷ t
    by true f later = let s : Some (trimmed t) ≡ None = sym (ap (λ x. cond x (Some (trimmed t)) (after_comma t)) f) ∙ e in absurd cc
    by false f later =
        ap (λ x. cond x [] (b ∷ before_comma t)) f ∙ ap (λ s. b ∷ s) (later (sym (ap (λ x. cond x (Some (trimmed t)) (after_comma t)) f) ∙ e))

before_comma_all : (t : Text) → list_all no_comma t ≡ true → before_comma t ≡ t
before_comma_all [] e = refl
before_comma_all (b ∷ t) e =
    let x = and_parts (no_comma b) (list_all no_comma t) e in
    ap (λ y. cond y [] (b ∷ before_comma t)) (not-true (b == 44) x.0) ∙ ap (λ s. b ∷ s) (before_comma_all t x.1)

after_comma_none : (t : Text) → list_all no_comma t ≡ true → after_comma t ≡ None
after_comma_none [] e = refl
after_comma_none (b ∷ t) e =
    let x = and_parts (no_comma b) (list_all no_comma t) e in
    ap (λ y. cond y (Some (trimmed t)) (after_comma t)) (not-true (b == 44) x.0) ∙ after_comma_none t x.1

before_comma_at : (t u : Text) → list_all no_comma t ≡ true → before_comma (t ++ 44 ∷ u) ≡ t
before_comma_at [] u e = refl
before_comma_at (b ∷ t) u e =
    let x = and_parts (no_comma b) (list_all no_comma t) e in
    ap (λ y. cond y [] (b ∷ before_comma (t ++ 44 ∷ u))) (not-true (b == 44) x.0) ∙ ap (λ s. b ∷ s) (before_comma_at t u x.1)

after_comma_at : (t u : Text) → list_all no_comma t ≡ true → after_comma (t ++ 44 ∷ u) ≡ Some (trimmed u)
after_comma_at [] u e = refl
after_comma_at (b ∷ t) u e =
    let x = and_parts (no_comma b) (list_all no_comma t) e in
    ap (λ y. cond y (Some (trimmed (t ++ 44 ∷ u))) (after_comma (t ++ 44 ∷ u))) (not-true (b == 44) x.0) ∙ after_comma_at t u x.1

-- ---- braces

-- a byte opens a brace, closes one, or is none
abbrev Kind : ℕ → Type 0
Kind b = (b ≡ 123) ⊎ ((b ≡ 125) ⊎ (((b == 123) ≡ false) × ((b == 125) ≡ false)))

kind : (b : ℕ) → Kind b
kind b = by (b == 123) (b == 125) refl refl
  where
    by : (x y : Bool) → (b == 123) ≡ x → (b == 125) ≡ y → Kind b
    by true y e f = inl (eqb-true b 123 e)
    by false true e f = inr (inl (eqb-true b 125 f))
    by false false e f = inr (inr (e, f))

no_brace_kind : (b : ℕ) → no_brace b ≡ true → ((b == 123) ≡ false) × ((b == 125) ≡ false)
no_brace_kind b e = by (b == 123) (b == 125) e
  where
    by : (x y : Bool) → not (x || y) ≡ true → (x ≡ false) × (y ≡ false)
    by true y e = absurd (true≢false (sym e))
    by false true e = absurd (true≢false (sym e))
    by false false e = (refl, refl)

balanced_past : (s t : Text) → list_all no_brace s ≡ true → is_balanced 0 (s ++ t) ≡ is_balanced 0 t
balanced_past [] t e = refl
balanced_past (b ∷ s) t e =
    let x = and_parts (no_brace b) (list_all no_brace s) e in
    let k = no_brace_kind b x.0 in
    (takes_other b 0 [] (s ++ t) k.0 k.1).balanced ∙ balanced_past s t x.1

pieces_step : (b depth d : ℕ) (held next : Text) (made : List Piece) (t : Text) → Takes b depth d held made next t → pieces_from (b ∷ t) depth held ≡ made ++ pieces_from t d next
pieces_step b depth d held next made t k =
    ap (λ x. x ++ pieces_from t (depth_after b depth) (held_after b depth held)) k.ends
    ∙ ap (λ n. made ++ pieces_from t n (held_after b depth held)) k.depth ∙ ap (λ h. made ++ pieces_from t d h) k.held

-- ---- from pieces to what they spell

spelled_by : (inside : Text) (limit : Option Text) → after_comma inside ≡ limit → is_name (stripped (before_comma inside)) ≡ true → is_balanced 0 inside ≡ true →
    Spells (hole (stripped (before_comma inside)) limit) (123 ∷ (inside ++ 125 ∷ []))
spelled_by inside None e n b =
    let same = none_comma inside e in
    (inside, subst (λ (x : Text). IsNamed (stripped (before_comma inside)) x) same (named_stripped (before_comma inside) n), refl)
spelled_by inside (Some limit) e n b =
    let name = named_stripped (before_comma inside) n in
    let c = at_comma inside limit e in
    let r = trims c.rest in
    let rest : c.rest ≡ r.blanks ++ limit = r.is ∙ ap (λ s. r.blanks ++ s) (sym c.trimmed_rest) in
    let whole : inside ≡ before_comma inside ++ 44 ∷ (r.blanks ++ limit) = c.is ∙ ap (λ s. before_comma inside ++ 44 ∷ s) rest in
    let past : is_balanced 0 inside ≡ is_balanced 0 limit =
    ap (is_balanced 0) whole ∙ balanced_past (before_comma inside) (44 ∷ (r.blanks ++ limit)) (all_outside no_brace blank_no_brace name_no_brace _ (before_comma inside) name)
    ∙ balanced_past r.blanks limit (all_too is_blank no_brace blank_no_brace r.blanks r.are_blank) in (
      before_comma inside,
      r.blanks,
      name,
      r.are_blank,
      ap starts_with_blank c.trimmed_rest ∙ trimmed_start c.rest,
      sym past ∙ b,
      ap (λ s. 123 ∷ s) (ap (λ s. s ++ 125 ∷ []) whole ∙ append_assoc (before_comma inside) (44 ∷ (r.blanks ++ limit)) (125 ∷ [])),
    )

abbrev SpellsFrom : Text → ℕ → Text → Type 0
SpellsFrom t zero held =
    list_all no_brace held ≡ true → is_balanced 0 t ≡ true → list_all is_named (pieces_from t 0 held) ≡ true → SpellsAll (pieces_from t 0 held) (reverse held ++ t)
SpellsFrom t (suc d) held =
    ((s : Text) → is_balanced 0 (reverse held ++ s) ≡ is_balanced d s) → is_balanced (suc d) t ≡ true → list_all is_named (pieces_from t (suc d) held) ≡ true →
    SpellsAll (pieces_from t (suc d) held) (123 ∷ (reverse held ++ t)) × (starts_plain (pieces_from t (suc d) held) ≡ false)

spelled_text : (b : ℕ) (held : Text) (ps : List Piece) (t : Text) → list_all no_brace (b ∷ held) ≡ true → starts_plain ps ≡ false → SpellsAll ps t →
    SpellsAll (plain (reverse (b ∷ held)) ∷ ps) (reverse (b ∷ held) ++ t)
spelled_text b held ps t e s r =
    (s, (reverse (b ∷ held), t, (refl, omega (arith, length-reverse (b ∷ held)), all_reverse no_brace (b ∷ held) e), r, refl))

opens : (t held : Text) → SpellsFrom t 1 [] → SpellsFrom (123 ∷ t) 0 held
opens t [] later = λ e b n. (later (λ s. refl) b n).0
opens t (c ∷ held) later = λ e b n. let r = later (λ s. refl) b n in spelled_text c held (pieces_from t 1 []) (123 ∷ t) e r.1 r.0

closes : (t held : Text) → SpellsFrom t 0 [] → SpellsFrom (125 ∷ t) 1 held
closes t held later = λ inv b n.
    let x = and_parts (is_name (stripped (before_comma (reverse held)))) (list_all is_named (pieces_from t 0 [])) n in
    let balanced : is_balanced 0 (reverse held) ≡ true = sym (ap (is_balanced 0) (append-nil (reverse held))) ∙ inv [] in (
      (
        refl,
        (
          123 ∷ (reverse held ++ 125 ∷ []),
          t,
          spelled_by (reverse held) (after_comma (reverse held)) refl x.0 balanced,
          later refl b x.1,
          ap (λ s. 123 ∷ s) (sym (append_assoc (reverse held) (125 ∷ []) t)),
        ),
      ),
      refl,
    )

outside_on : (b : ℕ) (t held : Text) → ((b == 123) ≡ false) × ((b == 125) ≡ false) → SpellsFrom t 0 (b ∷ held) → SpellsFrom (b ∷ t) 0 held
outside_on b t held k later = λ e bal n.
    let s = takes_other b 0 held t k.0 k.1 in
    let same = pieces_step b 0 0 held (b ∷ held) [] t s in
    let r = later (and_from (no_brace b) (list_all no_brace held) (not_either (b == 123) (b == 125) k.0 k.1) e) (sym s.balanced ∙ bal) (sym (ap (list_all is_named) same) ∙ n) in
    subst (λ (ps : List Piece). SpellsAll ps (reverse held ++ b ∷ t)) (sym same) (subst (λ (x : Text). SpellsAll (pieces_from t 0 (b ∷ held)) x) (reverse_push b held t) r)

inside_on : (b d n : ℕ) (t held : Text) → pieces_from (b ∷ t) (suc d) held ≡ pieces_from t (suc n) (b ∷ held) → is_balanced (suc d) (b ∷ t) ≡ is_balanced (suc n) t →
    ((s : Text) → is_balanced d (b ∷ s) ≡ is_balanced n s) → SpellsFrom t (suc n) (b ∷ held) → SpellsFrom (b ∷ t) (suc d) held
inside_on b d n t held same e g later = λ inv bal named.
    let r = later (λ s. ap (is_balanced 0) (reverse_push b held s) ∙ inv (b ∷ s) ∙ g s) (sym e ∙ bal) (sym (ap (list_all is_named) same) ∙ named) in
    subst (λ (ps : List Piece). SpellsAll ps (123 ∷ (reverse held ++ b ∷ t)) × (starts_plain ps ≡ false)) (sym same)
    (subst (λ (x : Text). SpellsAll (pieces_from t (suc n) (b ∷ held)) (123 ∷ x)) (reverse_push b held t) r.0, r.1)

deeper : (d : ℕ) (t held : Text) → SpellsFrom t (suc (suc d)) (123 ∷ held) → SpellsFrom (123 ∷ t) (suc d) held
deeper zero t held later = inside_on 123 0 1 t held refl refl (λ s. refl) later
deeper (suc d) t held later = inside_on 123 (suc d) (suc (suc d)) t held refl refl (λ s. refl) later

less : (d : ℕ) (t held : Text) → ((n : ℕ) (h : Text) → SpellsFrom t n h) → SpellsFrom (125 ∷ t) (suc d) held
less zero t held later = closes t held (later 0 [])
less (suc d) t held later = inside_on 125 (suc d) d t held refl refl (λ s. refl) (later (suc d) (125 ∷ held))

step_outside : (b : ℕ) (t held : Text) → Kind b → ((n : ℕ) (h : Text) → SpellsFrom t n h) → SpellsFrom (b ∷ t) 0 held
step_outside b t held (inl e) later = subst (λ (c : ℕ). SpellsFrom (c ∷ t) 0 held) (sym e) (opens t held (later 1 []))
step_outside b t held (inr (inl e)) later = subst (λ (c : ℕ). SpellsFrom (c ∷ t) 0 held) (sym e) (λ x bal n. absurd (true≢false (sym bal)))
step_outside b t held (inr (inr k)) later = outside_on b t held k (later 0 (b ∷ held))

step_inside : (b d : ℕ) (t held : Text) → Kind b → ((n : ℕ) (h : Text) → SpellsFrom t n h) → SpellsFrom (b ∷ t) (suc d) held
step_inside b d t held (inl e) later = subst (λ (c : ℕ). SpellsFrom (c ∷ t) (suc d) held) (sym e) (deeper d t held (later (suc (suc d)) (123 ∷ held)))
step_inside b d t held (inr (inl e)) later = subst (λ (c : ℕ). SpellsFrom (c ∷ t) (suc d) held) (sym e) (less d t held later)
step_inside b d t held (inr (inr k)) later =
    let s = takes_other b (suc d) held t k.0 k.1 in
    inside_on b d d t held (pieces_step b (suc d) (suc d) held (b ∷ held) [] t s) s.balanced (λ u. (takes_other b d held u k.0 k.1).balanced) (later (suc d) (b ∷ held))

ends_outside : (held : Text) → SpellsFrom [] 0 held
ends_outside [] = λ e b n. refl
ends_outside (b ∷ held) = λ e bal n. spelled_text b held [] [] e refl refl

spells_from : (t : Text) (depth : ℕ) (held : Text) → SpellsFrom t depth held
spells_from [] zero held = ends_outside held
spells_from [] (suc d) held = λ inv b n. absurd (true≢false (sym b))
spells_from (b ∷ t) zero held = step_outside b t held (kind b) (spells_from t)
spells_from (b ∷ t) (suc d) held = step_inside b d t held (kind b) (spells_from t)

-- a text whose braces are balanced and whose wildcards have names is spelled by its pieces
pub pieces_spell : (t : Text) → is_balanced 0 t ≡ true → list_all is_named (pieces t) ≡ true → SpellsAll (pieces t) t
pieces_spell t b n = spells_from t 0 [] refl b n

-- ---- from what is spelled to pieces

past_text : (s t held : Text) → list_all no_brace s ≡ true → pieces_from (s ++ t) 0 held ≡ pieces_from t 0 (reverse s ++ held)
past_text [] t held e = refl
past_text (b ∷ s) t held e =
    let x = and_parts (no_brace b) (list_all no_brace s) e in
    let k = no_brace_kind b x.0 in
    pieces_step b 0 0 held (b ∷ held) [] (s ++ t) (takes_other b 0 held (s ++ t) k.0 k.1) ∙ past_text s t (b ∷ held) x.1 ∙ ap (pieces_from t 0) (sym (reverse_push b s held))

-- what stands in braces, where so many are open before
abbrev Inside : Text → Text → ℕ → Type 0
Inside s t d =
    (held : Text) → is_balanced d s ≡ true →
    (pieces_from (s ++ 125 ∷ t) (suc d) held ≡ hole_of (reverse held ++ s) ∷ pieces_from t 0 []) × (is_balanced (suc d) (s ++ 125 ∷ t) ≡ is_balanced 0 t)

inside_more : (b d n : ℕ) (s t : Text) → ((held : Text) → pieces_from ((b ∷ s) ++ 125 ∷ t) (suc d) held ≡ pieces_from (s ++ 125 ∷ t) (suc n) (b ∷ held)) →
    is_balanced (suc d) ((b ∷ s) ++ 125 ∷ t) ≡ is_balanced (suc n) (s ++ 125 ∷ t) → is_balanced d (b ∷ s) ≡ is_balanced n s → Inside s t n → Inside (b ∷ s) t d
inside_more b d n s t same e g later = λ held bal.
    let r = later (b ∷ held) (sym g ∙ bal) in
    (same held ∙ r.0 ∙ ap (λ x. hole_of x ∷ pieces_from t 0 []) (reverse_push b held s), e ∙ r.1)

inside_opens : (d : ℕ) (s t : Text) → Inside s t (suc d) → Inside (123 ∷ s) t d
inside_opens zero s t later = inside_more 123 0 1 s t (λ held. refl) refl refl later
inside_opens (suc d) s t later = inside_more 123 (suc d) (suc (suc d)) s t (λ held. refl) refl refl later

inside_closes : (d : ℕ) (s t : Text) → ((n : ℕ) → Inside s t n) → Inside (125 ∷ s) t d
inside_closes zero s t later = λ held bal. absurd (true≢false (sym bal))
inside_closes (suc d) s t later = inside_more 125 (suc d) d s t (λ held. refl) refl refl (later d)

inside_step : (b d : ℕ) (s t : Text) → Kind b → ((n : ℕ) → Inside s t n) → Inside (b ∷ s) t d
inside_step b d s t (inl e) later = subst (λ (c : ℕ). Inside (c ∷ s) t d) (sym e) (inside_opens d s t (later (suc d)))
inside_step b d s t (inr (inl e)) later = subst (λ (c : ℕ). Inside (c ∷ s) t d) (sym e) (inside_closes d s t later)
inside_step b d s t (inr (inr k)) later =
    inside_more b d d s t
    (λ held. pieces_step b (suc d) (suc d) held (b ∷ held) [] (s ++ 125 ∷ t) (takes_other b (suc d) held (s ++ 125 ∷ t) k.0 k.1))
    (takes_other b (suc d) [] (s ++ 125 ∷ t) k.0 k.1).balanced (takes_other b d [] s k.0 k.1).balanced (later d)

inside_all : (s t : Text) (d : ℕ) → Inside s t d
inside_all [] t zero = λ held bal. (ap (λ x. hole_of x ∷ pieces_from t 0 []) (sym (append-nil (reverse held))), refl)
inside_all [] t (suc d) = λ held bal. absurd (true≢false (sym bal))
inside_all (b ∷ s) t d = inside_step b d s t (kind b) (inside_all s t)

-- what a wildcard is read as, which stands so between its braces
pub record IsInside (p : Piece) (inside : Text) : Type 0 where
  pub is : hole_of inside ≡ p
  pub balanced : is_balanced 0 inside ≡ true
  pub named : is_named p ≡ true

without_limit : (name inside : Text) → IsNamed name inside → IsInside (hole name None) inside
without_limit name inside n =
    let free = all_outside no_comma blank_no_comma name_no_comma name inside n in
    let braces = all_outside no_brace blank_no_brace name_no_brace name inside n in
    record {
      is = ap₂ hole (ap stripped (before_comma_all inside free) ∙ stripped_named name inside n) (after_comma_none inside free);
      balanced = sym (ap (is_balanced 0) (append-nil inside)) ∙ balanced_past inside [] braces;
      named = n.4;
    }

with_limit : (name inside blanks limit : Text) → IsNamed name inside → list_all is_blank blanks ≡ true → starts_with_blank limit ≡ false → is_balanced 0 limit ≡ true →
    IsInside (hole name (Some limit)) (inside ++ 44 ∷ (blanks ++ limit))
with_limit name inside blanks limit n bb s bal =
    let free = all_outside no_comma blank_no_comma name_no_comma name inside n in
    let braces = all_outside no_brace blank_no_brace name_no_brace name inside n in
    record {
      is = ap₂ hole (ap stripped (before_comma_at inside (blanks ++ limit) free) ∙ stripped_named name inside n)
          (after_comma_at inside (blanks ++ limit) free ∙ ap Some (trimmed_blanks blanks limit bb ∙ trimmed_none limit s));
      balanced = balanced_past inside (44 ∷ (blanks ++ limit)) braces ∙ balanced_past blanks limit (all_too is_blank no_brace blank_no_brace blanks bb) ∙ bal;
      named = n.4;
    }

-- what is read of a text that is spelled so
pub record IsSpelled (ps : List Piece) (t : Text) : Type 0 where
  pub pieces : (held : Text) → (starts_plain ps ≡ true → held ≡ []) → pieces_from t 0 held ≡ plain_of held ++ ps
  pub balanced : is_balanced 0 t ≡ true
  pub named : list_all is_named ps ≡ true

spelled_plain : (s : Text) (ps : List Piece) (t : Text) → starts_plain ps ≡ false → 0 < length s → list_all no_brace s ≡ true → IsSpelled ps t → IsSpelled (plain s ∷ ps) (s ++ t)
spelled_plain s ps t alone lt e r = record {
  pieces = λ held h.
      let none : held ≡ [] = h refl in
      subst (λ (x : Text). pieces_from (s ++ t) 0 x ≡ plain_of x ++ plain s ∷ ps) (sym none)
      (past_text s t [] e ∙ ap (pieces_from t 0) (append-nil (reverse s)) ∙ r.pieces (reverse s) (λ p. absurd (true≢false (sym p ∙ alone)))
      ∙ ap (λ x. x ++ ps) (plain_of_all s lt));
  balanced = balanced_past s t e ∙ r.balanced;
  named = r.named;
}

spelled_hole : (p : Piece) (inside : Text) (ps : List Piece) (t : Text) → is_plain p ≡ false → IsInside p inside → IsSpelled ps t → IsSpelled (p ∷ ps) ((123 ∷ (inside ++ 125 ∷ [])) ++ t)
spelled_hole p inside ps t alone i r =
    let x = inside_all inside t 0 [] i.balanced in
    let same : (inside ++ 125 ∷ []) ++ t ≡ inside ++ 125 ∷ t = append_assoc inside (125 ∷ []) t in
    record {
      pieces = λ held h.
          ap (λ s. plain_of held ++ pieces_from s 1 []) same
          ∙ ap (λ qs. plain_of held ++ qs) (x.0 ∙ ap₂ (λ (q : Piece) (qs : List Piece). q ∷ qs) i.is (r.pieces [] (λ e. refl)));
      balanced = ap (is_balanced 1) same ∙ x.1 ∙ r.balanced;
      named = and_from (is_named p) (list_all is_named ps) i.named r.named;
    }

spelled_first : (p : Piece) (ps : List Piece) (front back : Text) → (is_plain p && starts_plain ps) ≡ false → Spells p front → IsSpelled ps back → IsSpelled (p ∷ ps) (front ++ back)
spelled_first (plain t) ps front back alone (e, lt, free) r = subst (λ (x : Text). IsSpelled (plain t ∷ ps) (x ++ back)) (sym e) (spelled_plain t ps back alone lt free r)
spelled_first (hole name None) ps front back alone (inside, n, e) r =
    subst (λ (x : Text). IsSpelled (hole name None ∷ ps) (x ++ back)) (sym e) (spelled_hole (hole name None) inside ps back refl (without_limit name inside n) r)
spelled_first (hole name (Some limit)) ps front back alone (inside, blanks, n, bb, s, bal, e) r =
    let same : front ≡ 123 ∷ ((inside ++ 44 ∷ (blanks ++ limit)) ++ 125 ∷ []) = e ∙ ap (λ x. 123 ∷ x) (sym (append_assoc inside (44 ∷ (blanks ++ limit)) (125 ∷ []))) in
    subst (λ (x : Text). IsSpelled (hole name (Some limit) ∷ ps) (x ++ back)) (sym same)
    (spelled_hole (hole name (Some limit)) (inside ++ 44 ∷ (blanks ++ limit)) ps back refl (with_limit name inside blanks limit n bb s bal) r)

is_spelled : (ps : List Piece) (t : Text) → SpellsAll ps t → IsSpelled ps t
is_spelled [] t e = subst (λ (x : Text). IsSpelled [] x) (sym e) (record { pieces = λ held h. sym (append-nil (plain_of held)); balanced = refl; named = refl })
is_spelled (p ∷ ps) t (alone, (front, back, s, r, e)) = subst (λ (x : Text). IsSpelled (p ∷ ps) x) (sym e) (spelled_first p ps front back alone s (is_spelled ps back r))

-- what spells a text is its pieces
pub pieces_of : (ps : List Piece) (t : Text) → SpellsAll ps t → (pieces t ≡ ps) × (is_balanced 0 t ≡ true) × (list_all is_named ps ≡ true)
pieces_of ps t s = let r = is_spelled ps t s in (r.pieces [] (λ e. refl), r.balanced, r.named)
