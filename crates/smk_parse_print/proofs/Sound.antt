-- The symbols of a source: names are names, texts are UTF-8, numbers are small enough.
use Rattle.std.proofs.Common.{◌≡◌, ◌≢◌, ℕ, zero, suc, ◌+◌, ◌-◌, ◌<◌, ◌≤◌, Bool, true, false, cond, List, [], ◌∷◌, ◌++◌, length, take, drop, Some, None, refl, sym, ap, subst, ◌∙◌, arith, inl, inr, length-drop}
use Rattle.std.proofs.lemmas.Bool.{and_parts, eqb-true, leb-true, cases_lt, cases_eq, cases_Bool}
use Rattle.std.proofs.lemmas.List.{append-nil, take_all, drop_all}
use Rattle.std.proofs.lemmas.List.Elements.{All-head, All-tail}
use Rattle.std.proofs.lemmas.Str.{IsUtf8-nil, IsUtf8-append, IsUtf8-encode, IsUtf8-from_ascii, IsUtf8-between, IsUtf8-take, IsUtf8-drop, IsCharBoundary-before_ascii, IsCharBoundary-after_ascii, encode_ascii}
use Rattle.std.proofs.lemmas.Str.Ascii.{IsAscii-cons}
use Rattle.std.specs.Prelude.{◌==◌, ◌&&◌, nat_le, slice_index, unwrap_or, All, if◌then◌else◌}
use Rattle.std.specs.Str.{IsUtf8, IsCharBoundary}
use lib.Utf8.{encode, encodes, scalar, scalars}
use Rattle.smk_lex.specs.declared.token.TokenKind.{TokenKind}
use Rattle.smk_lex.specs.declared.token.TokenKind.TheVariants as kind
use Rattle.smk_lex.specs.declared.token.Token.{Token}
use Rattle.smk_lex.specs.Pieces.{Bytes, ends_line, line_end, is_plain, value_of, number_of, greatest, quotes}
use Rattle.smk_lex.specs.Spelling.{IsName, IsText, escape_at, unescaped, plain_len, byte_before, with_feeds, is_long, opening_len, content, lines_in, text_value}
use Rattle.smk_lex.specs.Tokens.{IsToken, spelling, Spells}
use Rattle.smk_lex.proofs.Texts.{unescaped-plain, unescaped-next, plain-stops, cut_after, text_bounds, feeds-plain}
use Rattle.smk_lex.proofs.Inside.{nonzero_within}
use Rattle.smk_lex.proofs.Cuts.{quotes_some}
use Rattle.smk_lex.proofs.Followed.{ascii_nil}
use Rattle.smk_parse_expr.specs.declared.symbol.Symbol.{Symbol}
use Rattle.smk_parse_expr.specs.declared.symbol.Symbol.TheVariants as s
use Rattle.smk_parse_expr.specs.Grammar.{HasLetters}
use Rattle.smk_parse_expr.specs.Tokens.{by_kind, symbols_of}
use Rattle.smk_parse_print.proofs.Fit.{IsSound, AllSound}
use Rattle.smk_parse_print.proofs.Texts.{encode-high}

one_utf8 : (b : ℕ) → b < 128 → IsUtf8 (b ∷ [])
one_utf8 b low = IsUtf8-from_ascii (b ∷ []) (IsAscii-cons b [] low ascii_nil)

-- ---- escapes

-- what a backslash gives is text, and behind what goes with it the text may be cut
pub record Fine (z : Bytes) (p : Bytes × ℕ) : Type 0 where
  pub text : IsUtf8 p.0
  pub within : p.1 ≤ length z
  pub ascii : 0 < p.1 → slice_index z (p.1 - 1) < 128

pick : (z : Bytes) (b : Bool) (x y : Bytes × ℕ) → (b ≡ true → Fine z x) → (b ≡ false → Fine z y) → Fine z (if b then x else y)
pick z true x y f g = f refl
pick z false x y f g = g refl

one_more : (z : Bytes) (k b : ℕ) → (slice_index z 0 == k) ≡ true → 1 ≤ k → k < 128 → b < 128 → Fine z (b ∷ [], 1)
one_more z k b e some low small =
    let is : slice_index z 0 ≡ k = eqb-true (slice_index z 0) k e in
    let lt : 0 < length z = nonzero_within z 0 (omega arith) in
    record { text = one_utf8 b small; within = lt; ascii = λ _. omega arith }

line_fine : (z : Bytes) → ends_line z ≡ true → Fine z ([], line_end z)
line_fine z h = elim (cases_Bool (slice_index z 0 == 10)) [
  | inl e ↦
      let n : line_end z ≡ 1 = rw e refl in
      let is : slice_index z 0 ≡ 10 = eqb-true (slice_index z 0) 10 e in
      let lt : 0 < length z = nonzero_within z 0 (omega arith) in
      subst (λ k. Fine z ([], k)) (sym n) (record { text = IsUtf8-nil; within = lt; ascii = λ _. omega arith })
  | inr e ↦ elim (cases_Bool (slice_index z 0 == 13 && slice_index z 1 == 10)) [
    | inl g ↦
        let n : line_end z ≡ 2 = rw (e, g) refl in
        let is : slice_index z 1 ≡ 10 = eqb-true (slice_index z 1) 10 (and_parts (slice_index z 0 == 13) (slice_index z 1 == 10) g).1 in
        let lt : 1 < length z = nonzero_within z 1 (omega arith) in
        subst (λ k. Fine z ([], k)) (sym n) (record { text = IsUtf8-nil; within = lt; ascii = λ _. omega arith })
    | inr g ↦ let wrong : false ≡ true = rw (e, g) at h in absurd cc
  ]
]

escape_fine : (z : Bytes) → Fine z (escape_at z)
escape_fine z =
    pick z (ends_line z) _ _ (λ h. line_fine z h) (λ _.
    pick z (slice_index z 0 == 110) _ _ (λ e. one_more z 110 10 e (omega arith) (omega arith) (omega arith)) (λ _.
    pick z (slice_index z 0 == 116) _ _ (λ e. one_more z 116 9 e (omega arith) (omega arith) (omega arith)) (λ _.
    pick z (slice_index z 0 == 114) _ _ (λ e. one_more z 114 13 e (omega arith) (omega arith) (omega arith)) (λ _.
    pick z (slice_index z 0 == 92) _ _ (λ e. one_more z 92 92 e (omega arith) (omega arith) (omega arith)) (λ _.
    pick z (slice_index z 0 == 34) _ _ (λ e. one_more z 34 34 e (omega arith) (omega arith) (omega arith)) (λ _.
    pick z (slice_index z 0 == 39) _ _ (λ e. one_more z 39 39 e (omega arith) (omega arith) (omega arith)) (λ _.
    record { text = one_utf8 92 (omega arith); within = omega arith; ascii = λ lt. absurd (omega arith) })))))))

-- ---- the values of texts

unescaped-utf8 : (fuel : ℕ) (z : Bytes) → length z ≤ fuel → IsUtf8 z → IsUtf8 (unescaped 0 z)
unescaped-utf8 zero [] le u = IsUtf8-nil
unescaped-utf8 zero (b ∷ z) le u = absurd (omega arith)
unescaped-utf8 (suc fuel) z le u =
    let n = plain_len z in
    elim (cases_eq n (length z)) [
      | inl all ↦
          let none : drop n z ≡ [] = drop_all n z (omega arith) in
          let whole : take n z ≡ z = take_all n z (omega arith) in
          let same : unescaped 0 z ≡ z = unescaped-plain z ∙ ap (λ (v : Bytes). take n z ++ unescaped 0 v) none ∙ append-nil (take n z) ∙ whole in
          subst IsUtf8 (sym same) u
      | inr some ↦
          let stops = plain-stops z n refl some in
          let d = drop (n + 1) z in
          let m = (escape_at d).0 in
          let k = (escape_at d).1 in
          let fine = escape_fine d in
          let next : unescaped 0 z ≡ (take n z ++ m) ++ unescaped 0 (drop (n + 1 + k) z) = unescaped-next z n m k refl stops.0 refl in
          let front : IsUtf8 (take n z) = IsUtf8-take z n u (IsCharBoundary-before_ascii z n stops.0 (omega (arith, stops.1))) in
          let rest : IsUtf8 (drop (n + 1 + k) z) = IsUtf8-drop z (n + 1 + k) u (cut_after z n k u refl some fine.within fine.ascii) in
          let fewer : length (drop (n + 1 + k) z) ≤ fuel = omega (arith, length-drop (n + 1 + k) z, stops.0) in
          subst IsUtf8 (sym next) (IsUtf8-append (take n z ++ m) (unescaped 0 (drop (n + 1 + k) z)) (IsUtf8-append (take n z) m front fine.text) (unescaped-utf8 fuel (drop (n + 1 + k) z) fewer rest))
    ]

content-utf8 : (w : Bytes) → IsText w → IsUtf8 w → IsUtf8 (content w)
unfolding content
content-utf8 w is u =
    let q = quotes (is_long w) in
    let i = opening_len w in
    let b = text_bounds w is in
    let some : 1 ≤ q = quotes_some (is_long w) in
    let room : i + q ≤ length w = b.room in
    let one : i - 1 + 1 ≡ i = omega arith in
    let opening : IsCharBoundary w i = subst (IsCharBoundary w) one (IsCharBoundary-after_ascii w (i - 1) u (omega arith) b.opens) in
    let closing : IsCharBoundary w (length w - q) = IsCharBoundary-before_ascii w (length w - q) (omega arith) b.closes in
    IsUtf8-between w i (length w - q) u (omega arith) opening closing

-- ---- line ends

byte-utf8 : (b : ℕ) (z : Bytes) → b < 128 → IsUtf8 (byte_before b z)
byte-utf8 b z low = by_test (b == 13 && slice_index z 0 == 10)
  where
    by_test : (t : Bool) → IsUtf8 (cond t [] (b ∷ []))
    by_test true = IsUtf8-nil
    by_test false = one_utf8 b low

feeds-chars : (cs : List ℕ) → scalars cs ≡ true → IsUtf8 (with_feeds (encodes cs))
feeds-chars [] h = IsUtf8-nil
feeds-chars (c ∷ cs) h =
    let r = and_parts (scalar c) (scalars cs) h in
    let rest : IsUtf8 (with_feeds (encodes cs)) = feeds-chars cs r.1 in
    elim (cases_lt c 128) [
      | inl low ↦
          let e : with_feeds (encode c ++ encodes cs) ≡ byte_before c (encodes cs) ++ with_feeds (encodes cs) = ap (λ (v : Bytes). with_feeds (v ++ encodes cs)) (encode_ascii c low) in
          subst IsUtf8 (sym e) (IsUtf8-append (byte_before c (encodes cs)) (with_feeds (encodes cs)) (byte-utf8 c (encodes cs) low) rest)
      | inr high ↦
          let e : with_feeds (encode c ++ encodes cs) ≡ encode c ++ with_feeds (encodes cs) =
          feeds-plain (encode c) (encodes cs) (λ i lt. above (slice_index (encode c) i) (encode-high c high i lt)) in
          subst IsUtf8 (sym e) (IsUtf8-append (encode c) (with_feeds (encodes cs)) (IsUtf8-encode c r.0) rest)
    ]
  where
    above : (b : ℕ) → 128 ≤ b → b ≢ 13
    above b h = λ e. omega arith

feeds-utf8 : (z : Bytes) → IsUtf8 z → IsUtf8 (with_feeds z)
feeds-utf8 z (cs, (all, e)) = subst (λ (v : Bytes). IsUtf8 (with_feeds v)) e (feeds-chars cs all)

value-utf8 : (w : Bytes) → IsText w → IsUtf8 w → IsUtf8 (text_value w)
unfolding text_value
value-utf8 w is u = by_mark (slice_index w 0 == 114)
  where
    lines : IsUtf8 (lines_in w)
    lines = feeds-utf8 (content w) (content-utf8 w is u)

    by_mark : (b : Bool) → IsUtf8 (cond b (lines_in w) (unescaped 0 (lines_in w)))
    by_mark true = lines
    by_mark false = unescaped-utf8 (length (lines_in w)) (lines_in w) (omega arith) lines

-- ---- symbols

number_small : (w : Bytes) → unwrap_or (number_of w) 0 ≤ greatest
number_small w = by_test (is_plain w && nat_le (value_of w) greatest) (λ h. leb-true (value_of w) greatest (and_parts (is_plain w) (nat_le (value_of w) greatest) h).1)
  where
    by_test : (b : Bool) → (b ≡ true → value_of w ≤ greatest) → unwrap_or (cond b (Some (value_of w)) None) 0 ≤ greatest
    by_test true h = h refl
    by_test false h = omega arith

kind-sound : (k : TokenKind) (at : ℕ) (w : Bytes) → Spells k w → IsUtf8 w → IsSound (by_kind k at w)
kind-sound kind.Name at w h u = h
kind-sound kind.Number at w h u = number_small w
kind-sound kind.Spelling at w h u = u
kind-sound kind.Text at w h u = value-utf8 w h u
kind-sound kind.Sign at w h u = tt
kind-sound kind.Newline at w h u = tt
kind-sound kind.Indent at w h u = tt
kind-sound kind.Dedent at w h u = tt

spelling-utf8 : (source : Bytes) (t : Token) → IsUtf8 source → IsToken source t → IsUtf8 (spelling source t)
spelling-utf8 source t u is = elim (cases_lt t.end t.start) [
  | inl lt ↦ let none : t.end - t.start ≡ 0 = omega arith in subst (λ n. IsUtf8 (take n (drop t.start source))) (sym none) IsUtf8-nil
  | inr le ↦ IsUtf8-between source t.start t.end u le is.begins is.ends
]

pub symbols-sound : (source : Bytes) (ts : List Token) → IsUtf8 source → All (IsToken source) ts → AllSound (symbols_of source ts)
symbols-sound source [] u h = tt
symbols-sound source (t ∷ ts) u h =
    let is : IsToken source t = All-head (IsToken source) t ts h in
    (kind-sound t.kind t.start (spelling source t) is.spelled (spelling-utf8 source t u is), symbols-sound source ts u (All-tail (IsToken source) t ts h))

name_some : (w : Bytes) → IsName w → w ≢ []
name_some [] h e = h
name_some (b ∷ w) h e = cc

pub sound-letters : (xs : List Symbol) → AllSound xs → HasLetters xs
sound-letters [] h = tt
sound-letters (s.Name at w ∷ xs) h = (name_some w h.0, sound-letters xs h.1)
sound-letters (s.Number at n ∷ xs) h = sound-letters xs h.1
sound-letters (s.Text at t ∷ xs) h = sound-letters xs h.1
sound-letters (s.Sign at k ∷ xs) h = sound-letters xs h.1
sound-letters (s.Newline at ∷ xs) h = sound-letters xs h.1
sound-letters (s.Indent at ∷ xs) h = sound-letters xs h.1
sound-letters (s.Dedent at ∷ xs) h = sound-letters xs h.1
