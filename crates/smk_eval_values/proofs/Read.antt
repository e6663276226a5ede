-- How a pattern is read, piece by piece.
use Rattle.std.proofs.Common.{◌≡◌, ℕ, zero, suc, ◌+◌, ◌<◌, ◌≤◌, ◌==◌, ◌&&◌, Bool, true, false, cond, List, [], ◌∷◌, ◌++◌, take, drop, map, length, get_or, refl, ap, sym, ◌∙◌, arith, append_assoc, append-nil, add-one}
use Rattle.std.proofs.lemmas.Grind.{flat_map-append}
use Rattle.std.proofs.lemmas.Bool.Decides.{nat_tests}
use Rattle.std.proofs.lemmas.List.{drop_all}
use Rattle.std.proofs.lemmas.Bool.{or_parts}
use Rattle.smk_eval_values.specs.declared.reading.Piece.{Piece}
use Rattle.smk_template.specs.Templates.{is_brace, first_brace}
use Rattle.smk_eval_values.specs.Letters.{Letter, plain, name, is_closed, closed_len, letter_by, more_by, letters_after, letters, name_len, piece_letters, letters_of}

pub letters_push : (ps : List Piece) (p : Piece) → letters_of (ps ++ p ∷ []) ≡ letters_of ps ++ piece_letters p
letters_push ps p = flat_map-append piece_letters ps (p ∷ []) ∙ ap (λ ls. letters_of ps ++ ls) (append-nil (piece_letters p))

pub letters_skipped : (k : ℕ) (t : List ℕ) → letters_after k t ≡ letters (drop k t)
letters_skipped zero t = refl
letters_skipped (suc k) [] = refl
letters_skipped (suc k) (b ∷ t) = letters_skipped k t

-- a byte that is no brace stands for itself
plain_first : (b : ℕ) (t : List ℕ) → is_brace b ≡ false → letters (b ∷ t) ≡ plain b ∷ letters t
plain_first b t e =
    ap (λ (n : ℕ). letter_by b t n ∷ letters_after (more_by b t n) t) (ap (λ (v : Bool). cond (v && is_closed t) (name_len t) 0) (or_parts (b == 123) (b == 125) e).0)
    ∙ ap (λ (v : Bool). plain b ∷ letters_after (cond (v && (get_or t 0 0 == b)) 1 0) t) e

before_step : (b : ℕ) (t : List ℕ) (v : Bool) → is_brace b ≡ v → letters t ≡ map plain (take (first_brace t) t) ++ letters (drop (first_brace t) t)
    → letters (b ∷ t) ≡ map plain (take (cond v 0 (suc (first_brace t))) (b ∷ t)) ++ letters (drop (cond v 0 (suc (first_brace t))) (b ∷ t))
before_step b t true e h = refl
before_step b t false e h = plain_first b t e ∙ ap (λ (ls : List Letter). plain b ∷ ls) h

-- up to the first brace each byte stands for itself
pub letters_before : (t : List ℕ) → letters t ≡ map plain (take (first_brace t) t) ++ letters (drop (first_brace t) t)
letters_before [] = refl
letters_before (b ∷ t) = before_step b t (is_brace b) refl (letters_before t)

-- what begins at a byte, and the rest
at_byte : (b : ℕ) (t : List ℕ) (n : ℕ) → n ≡ closed_len b t → letters (b ∷ t) ≡ letter_by b t n ∷ letters (drop (more_by b t n) t)
at_byte b t n e =
    ap (λ (k : ℕ). letter_by b t k ∷ letters_after (more_by b t k) t) (sym e)
    ∙ ap (λ (ls : List Letter). letter_by b t n ∷ ls) (letters_skipped (more_by b t n) t)

pub name_first : (b : ℕ) (t : List ℕ) (n : ℕ) → n ≡ closed_len b t → 0 < n → letters (b ∷ t) ≡ name (take n t) ∷ letters (drop (n + 1) t)
name_first b t zero e lt = absurd (omega arith)
name_first b t (suc k) e lt = at_byte b t (suc k) e ∙ ap (λ (m : ℕ). name (take (suc k) t) ∷ letters (drop m t)) (sym (add-one (suc k)))

pub first_and_rest : (text after : List ℕ) (b : ℕ) → 0 < length text → b ≡ get_or text 0 0 → after ≡ drop 1 text → text ≡ b ∷ after
first_and_rest [] after b lt e d = absurd (omega arith)
first_and_rest (c ∷ t) after b lt e d = ap (λ (x : ℕ). x ∷ t) (sym e) ∙ ap (λ (x : List ℕ). b ∷ x) (sym d)

pub whole : (new was front rest text : List Letter) → new ≡ was ++ front → text ≡ front ++ rest → new ++ rest ≡ was ++ text
whole new was front rest text n t = ap (λ (ls : List Letter). ls ++ rest) n ∙ append_assoc was front rest ∙ ap (λ (ls : List Letter). was ++ ls) (sym t)

pub brace_small : (b : ℕ) → is_brace b ≡ true → b < 128
brace_small b e = grind (arith, nat_tests)

-- what is read up to the first brace
pub read_front : (was : List Letter) (rest : List ℕ) (k : ℕ) → k ≡ first_brace rest → was ++ letters rest ≡ (was ++ map plain (take k rest)) ++ letters (drop k rest)
read_front was rest k e =
    ap (λ (ls : List Letter). was ++ ls) (letters_before rest)
    ∙ ap (λ (n : ℕ). was ++ (map plain (take n rest) ++ letters (drop n rest))) (sym e)
    ∙ sym (append_assoc was (map plain (take k rest)) (letters (drop k rest)))

pub read_last : (new was all : List Letter) (rest front : List ℕ) (k : ℕ) → new ≡ was ++ map plain front → front ≡ take k rest → k ≡ first_brace rest → length rest ≤ k
    → was ++ letters rest ≡ all → new ≡ all
read_last new was all rest front k n f e le h =
    n ∙ ap (λ (t : List ℕ). was ++ map plain t) f
    ∙ sym (append-nil (was ++ map plain (take k rest)))
    ∙ ap (λ (t : List ℕ). (was ++ map plain (take k rest)) ++ letters t) (sym (drop_all k rest le))
    ∙ sym (read_front was rest k e) ∙ h

pub read_more : (newer new was all : List Letter) (rest front at : List ℕ) (k : ℕ) → newer ≡ new ++ letters at → at ≡ drop k rest → new ≡ was ++ map plain front → front ≡ take k rest
    → k ≡ first_brace rest → was ++ letters rest ≡ all → newer ≡ all
read_more newer new was all rest front at k m a n f e h =
    m ∙ ap (λ (t : List ℕ). new ++ letters t) a
    ∙ ap (λ (ls : List Letter). ls ++ letters (drop k rest)) (n ∙ ap (λ (t : List ℕ). was ++ map plain t) f)
    ∙ sym (read_front was rest k e) ∙ h
