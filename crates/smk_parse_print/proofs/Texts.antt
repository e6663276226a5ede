-- A spelled text reads back.
use Rattle.std.proofs.Common.{◌≡◌, ℕ, zero, suc, ◌<◌, ◌≤◌, Bool, true, false, List, [], ◌∷◌, ◌++◌, length, refl, sym, ap, subst, ◌∙◌, append_assoc, arith, inl, inr}
use Rattle.std.proofs.lemmas.Bool.{ne_eqb, and_parts}
use Rattle.std.proofs.lemmas.Bool.{cases_lt}
use Rattle.std.proofs.lemmas.List.{append-nil}
use Rattle.std.proofs.lemmas.List.Folds.{list_all-append}
use Rattle.std.proofs.lemmas.Str.{IsUtf8-nil, IsUtf8-append, IsUtf8-from_ascii, IsUtf8-encode, encode_ascii, inside_one}
use Rattle.std.proofs.lemmas.Str.Ascii.{IsAscii-cons}
use Rattle.std.specs.Prelude.{◌==◌, ◌||◌, not, slice_index}
use Rattle.std.specs.List.{list_all}
use Rattle.std.specs.Str.{IsUtf8, IsAscii}
use lib.Utf8.{encode, encodes, scalar, scalars}
use Rattle.smk_lex.specs.Pieces.{Bytes}
use Rattle.smk_lex.specs.Spelling.{escape, escaped, quoted}
use Rattle.smk_lex.proofs.Quoted.{Escapes, a_quote, a_backslash, a_feed, a_return, itself, escapes, cut-quoted, value-quoted}
use Rattle.smk_parse_print.specs.Texts.{IsSpelled}

-- ---- on one line

abbrev in_line : ℕ → Bool
in_line b = not (b == 10 || b == 13)

escape-line : (b : ℕ) (w : Bytes) → Escapes b w → list_all in_line w ≡ true
escape-line b w a_quote = refl
escape-line b w a_backslash = refl
escape-line b w a_feed = refl
escape-line b w a_return = refl
escape-line b w (itself c nq ns nf nr) = rw (nf, nr) refl

all-append : (p : ℕ → Bool) (v w : Bytes) → list_all p v ≡ true → list_all p w ≡ true → list_all p (v ++ w) ≡ true
all-append p v w a b = list_all-append p v w ∙ rw (a, b) refl

escaped-line : (t : Bytes) → list_all in_line (escaped t) ≡ true
escaped-line [] = refl
escaped-line (b ∷ t) = all-append in_line (escape b) (escaped t) (escape-line b (escape b) (escapes b)) (escaped-line t)

-- ---- UTF-8

escaped-append : (v w : Bytes) → escaped (v ++ w) ≡ escaped v ++ escaped w
escaped-append [] w = refl
escaped-append (b ∷ v) w = ap (λ (x : Bytes). escape b ++ x) (escaped-append v w) ∙ sym (append_assoc (escape b) (escaped v) (escaped w))

ascii-one : (b : ℕ) → b < 128 → IsAscii (b ∷ [])
ascii-one b h = λ i. at i
  where
    at : (i : ℕ) → slice_index (b ∷ []) i < 128
    at zero = h
    at (suc i) = omega arith

escape-ascii : (b : ℕ) (w : Bytes) → Escapes b w → b < 128 → IsUtf8 w
escape-ascii b w e h = IsUtf8-from_ascii w (below b w e h)
  where
    below : (b : ℕ) (w : Bytes) → Escapes b w → b < 128 → IsAscii w
    below b w a_quote h = IsAscii-cons 92 (34 ∷ []) (omega arith) (ascii-one 34 (omega arith))
    below b w a_backslash h = IsAscii-cons 92 (92 ∷ []) (omega arith) (ascii-one 92 (omega arith))
    below b w a_feed h = IsAscii-cons 92 (110 ∷ []) (omega arith) (ascii-one 110 (omega arith))
    below b w a_return h = IsAscii-cons 92 (114 ∷ []) (omega arith) (ascii-one 114 (omega arith))
    below b w (itself c nq ns nf nr) h = ascii-one c h

apart_from : (b k : ℕ) → k < b → (b == k) ≡ false
apart_from b k h = ne_eqb b k (λ e. omega arith)

escaped-high : (w : Bytes) → ((i : ℕ) → i < length w → 128 ≤ slice_index w i) → escaped w ≡ w
escaped-high [] h = refl
escaped-high (b ∷ w) h =
    let high : 128 ≤ b = h 0 (omega arith) in
    let one : escape b ≡ b ∷ [] = rw (apart_from b 34 (omega arith), apart_from b 92 (omega arith), apart_from b 10 (omega arith), apart_from b 13 (omega arith)) refl in
    ap (λ (v : Bytes). v ++ escaped w) one ∙ ap (λ (v : Bytes). b ∷ v) (escaped-high w (λ i l. h (suc i) (omega arith)))

pub encode-high : (c : ℕ) → 128 ≤ c → (i : ℕ) → i < length (encode c) → 128 ≤ slice_index (encode c) i
encode-high c high i within = elim (cases_lt (slice_index (encode c) i) 128) [
  | inl low ↦ let same : c ≡ slice_index (encode c) i = inside_one c [] (encode c) i (sym (append-nil (encode c))) within low in absurd (omega arith)
  | inr h ↦ h
]

escaped-char : (c : ℕ) → IsUtf8 (encode c) → IsUtf8 (escaped (encode c))
escaped-char c u = elim (cases_lt c 128) [
  | inl low ↦
      let e : escaped (encode c) ≡ escape c = ap escaped (encode_ascii c low) ∙ append-nil (escape c) in
      subst IsUtf8 (sym e) (escape-ascii c (escape c) (escapes c) low)
  | inr high ↦ subst IsUtf8 (sym (escaped-high (encode c) (encode-high c high))) u
]

escaped-chars : (cs : List ℕ) → scalars cs ≡ true → IsUtf8 (escaped (encodes cs))
escaped-chars [] h = IsUtf8-nil
escaped-chars (c ∷ cs) h =
    let r = and_parts (scalar c) (scalars cs) h in
    subst IsUtf8 (sym (escaped-append (encode c) (encodes cs)))
    (IsUtf8-append (escaped (encode c)) (escaped (encodes cs)) (escaped-char c (IsUtf8-encode c r.0)) (escaped-chars cs r.1))

pub quoted-utf8 : (t : Bytes) → IsUtf8 t → IsUtf8 (quoted t)
quoted-utf8 t (cs, (all, e)) =
    let inside : IsUtf8 (escaped t) = subst (λ (v : Bytes). IsUtf8 (escaped v)) e (escaped-chars cs all) in
    let quote : IsUtf8 (34 ∷ []) = IsUtf8-from_ascii (34 ∷ []) (ascii-one 34 (omega arith)) in
    IsUtf8-append (34 ∷ []) (escaped t ++ 34 ∷ []) quote (IsUtf8-append (escaped t) (34 ∷ []) inside quote)

pub spelt : (t : Bytes) → IsSpelled t
spelt t = record {
  value = value-quoted t;
  lexeme = λ x rest other. cut-quoted t x rest (ne_eqb x 34 other);
  line = all-append in_line (escaped t) (34 ∷ []) (escaped-line t) refl;
  utf8 = quoted-utf8 t;
}
