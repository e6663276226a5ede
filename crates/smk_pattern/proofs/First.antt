-- The binding that is computed is the one of the relation.
use Rattle.std.proofs.Common.{◌≡◌, ℕ, zero, suc, ◌+◌, ◌-◌, ◌<◌, ◌≤◌, ◌==◌, ◌&&◌, inl, inr, List, [], ◌∷◌, ◌++◌, length, take, drop, get_or, map, reverse, not, Bool, true, false, Option, None, Some, refl, sym, ap, ap₂, subst, ◌∙◌, arith, append-nil, append_assoc, length-append, IsUtf8, IsCharBoundary, nat_le, true≢false, take-append-drop}
use Rattle.std.specs.List.{flat_map, range_with_len, slice_get}
use Rattle.std.specs.Int.{is_in_range}
use Rattle.std.proofs.lemmas.Bool.{eqb-true, eq-eqb, and_parts, and_from}
use Rattle.std.proofs.lemmas.Bool.Decides.{nat_tests}
use Rattle.std.proofs.lemmas.List.{reverse-append, take_at, drop_at, get_or-drop, length-map, length-take-le}
use Rattle.std.proofs.lemmas.Option.{slice_get_within, get_or_from_slice_get, slice_get-get_or}
use Rattle.std.proofs.lemmas.Str.{IsUtf8-take, IsUtf8-drop, IsCharBoundary-from_take}
use Rattle.smk_pattern.specs.Shapes.{Text, Part, Shape, Wildcard, IsNumbered, AreTexts}
use Rattle.smk_pattern.specs.Shapes.Part.{text, wild}
use Rattle.smk_pattern.specs.Fitting.{Suits, Fits, IsBinding}
use Rattle.smk_pattern.specs.Searching.{RestFits, IsRest, IsKnown}
use Rattle.smk_pattern.specs.Bound.{begins, suits, is_cut, limit_at, bindings, first_values, bound, BoundIsBinding}
use Rattle.smk_pattern.proofs.Steps.{text_known, wild_known, past_known, before_known, none_known, found_end, none_end, Splits, none_left, shorter, no_rest, found_wild, split}

-- what the search from a place answers
abbrev Tells : List Part → List (Option Text) → List Text → Text → Option (List Text) → Type 0
Tells ps limits known rest None = (more : List Text) → RestFits ps limits known rest more → ⊥
Tells ps limits known rest (Some now) = (more : List Text) × (now ≡ known ++ more) × IsRest ps limits known rest more

-- ---- tests

begins_then : (t path : Text) → begins t path ≡ true → path ≡ t ++ drop (length t) path
begins_then [] path e = refl
begins_then (b ∷ t) [] e = absurd (true≢false (sym e))
begins_then (b ∷ t) (c ∷ path) e =
    let h = and_parts (b == c) (begins t path) e in
    ap₂ ◌∷◌ (sym (eqb-true b c h.0)) (begins_then t path h.1)

begins_all : (t after : Text) → begins t (t ++ after) ≡ true
begins_all [] after = refl
begins_all (b ∷ t) after = and_from (b == b) (begins t (t ++ after)) (eq-eqb b b refl) (begins_all t after)

no_begin : (t path : Text) → begins t path ≡ false → (after : Text) → path ≡ t ++ after → ⊥
no_begin t path e after f = true≢false (sym (begins_all t after) ∙ ap (begins t) (sym f) ∙ e)

lead_of : (rest : Text) → is_cut rest ≡ true → 0 < length rest → 128 ≤ get_or rest 0 0 → 192 ≤ get_or rest 0 0
lead_of [] e l h = absurd (omega (arith, l))
lead_of (b ∷ rest) e l h = outside b e h
  where
    outside : (b : ℕ) → not (is_in_range 128 191 b) ≡ true → 128 ≤ b → 192 ≤ b
    outside b e h = grind (arith, nat_tests)

cut_of : (rest : Text) → (0 < length rest → 128 ≤ get_or rest 0 0 → 192 ≤ get_or rest 0 0) → is_cut rest ≡ true
cut_of [] h = refl
cut_of (b ∷ rest) h = outside b (h (omega arith))
  where
    outside : (b : ℕ) → (128 ≤ b → 192 ≤ b) → not (is_in_range 128 191 b) ≡ true
    outside b h = grind (arith, nat_tests)

length_drop_at : (k : ℕ) (path : Text) → k ≤ length path → length (drop k path) ≡ length path - k
length_drop_at k path le = omega (arith, ap length (take-append-drop k path), length-append (take k path) (drop k path), length-take-le k path le)

boundary_of : (k : ℕ) (path : Text) → k ≤ length path → is_cut (drop k path) ≡ true → IsCharBoundary path k
boundary_of k path le e = (
  le,
  λ lt high.
      let at : get_or (drop k path) 0 0 ≡ get_or path k 0 = get_or-drop k path 0 0 ∙ ap (λ n. get_or path n 0) (omega arith) in
      rw (← at) (lead_of (drop k path) e (omega (arith, length_drop_at k path le)) (rw at high)),
)

cut_at : (k : ℕ) (path : Text) → IsCharBoundary path k → is_cut (drop k path) ≡ true
cut_at k path b = cut_of (drop k path) (λ l high.
    let at : get_or (drop k path) 0 0 ≡ get_or path k 0 = get_or-drop k path 0 0 ∙ ap (λ n. get_or path n 0) (omega arith) in
    rw at (b.1 (omega (arith, length_drop_at k path b.0)) (rw (← at) high)))

suits_then : (limit : Option Text) (v : Text) → suits limit v ≡ true → Suits limit v
suits_then None v e = longer (length v) e
  where
    longer : (n : ℕ) → nat_le 1 n ≡ true → 0 < n
    longer n e = grind (arith, nat_tests)
suits_then (Some limit) v e = e

then_suits : (limit : Option Text) (v : Text) → Suits limit v → suits limit v ≡ true
then_suits None v h = longer (length v) h
  where
    longer : (n : ℕ) → 0 < n → nat_le 1 n ≡ true
    longer n h = grind (arith, nat_tests)
then_suits (Some limit) v h = h

-- ---- the first of several answers

abbrev chosen : Bool → List (List Text) → List (List Text)
chosen b xs = elim b as (λ _. List (List Text)) [ true ↦ xs | false ↦ [] ]

first_step : (A : Option (List Text) → Type 0) (b : Bool) (xs ys : List (List Text)) →
    (b ≡ true → (v : List Text) → first_values xs ≡ Some v → A (Some v)) →
    ((b ≡ true → first_values xs ≡ None) → A (first_values ys)) → A (first_values (chosen b xs ++ ys))
first_step A false xs ys found vain = vain (λ e. absurd (true≢false (sym e)))
first_step A true [] ys found vain = vain (λ _. refl)
first_step A true (x ∷ xs) ys found vain = found refl x refl

first_chosen : (A : Option (List Text) → Type 0) (b : Bool) (xs : List (List Text)) → (b ≡ true → A (first_values xs)) → (b ≡ false → A None) → A (first_values (chosen b xs))
first_chosen A true xs found vain = found refl
first_chosen A false xs found vain = vain refl

range_more : (a n : ℕ) → range_with_len a (suc n) ≡ range_with_len a n ++ (a + n) ∷ []
range_more a zero = ap (λ k. k ∷ []) (omega arith)
range_more a (suc n) =
    let e : (a + 1) + n ≡ a + suc n = omega arith in
    ap (λ xs. a ∷ xs) (range_more (a + 1) n ∙ ap (λ k. range_with_len (a + 1) n ++ k ∷ []) e)

-- the numbers below, the greatest first
down : (n : ℕ) → reverse (range_with_len 0 (suc n)) ≡ n ∷ reverse (range_with_len 0 n)
down n =
    let e : 0 + n ≡ n = omega arith in
    ap reverse (range_more 0 n) ∙ reverse-append (range_with_len 0 n) ((0 + n) ∷ []) ∙ ap (λ k. k ∷ reverse (range_with_len 0 n)) e

-- ---- texts

abbrev AreUtf8 : List Text → Type 0
AreUtf8 [] = Unit {0}
AreUtf8 (v ∷ vs) = IsUtf8 v × AreUtf8 vs

utf8_at : (values : List Text) (n : ℕ) → AreUtf8 values → n < length values → IsUtf8 (get_or values n [])
utf8_at [] n u lt = absurd (omega (arith, lt))
utf8_at (v ∷ values) zero u lt = u.0
utf8_at (v ∷ values) (suc n) u lt = utf8_at values n u.1 (omega (arith, lt))

utf8_more : (values : List Text) (v : Text) → AreUtf8 values → IsUtf8 v → AreUtf8 (values ++ v ∷ [])
utf8_more [] v u h = (h, tt)
utf8_more (w ∷ values) v u h = (u.0, utf8_more values v u.1 h)

-- what follows a text in a text
utf8_after : (path t after : Text) → IsUtf8 path → IsUtf8 t → path ≡ t ++ after → IsUtf8 after
utf8_after path t after u v e =
    let front : take (length t) path ≡ t = ap (take (length t)) e ∙ take_at t after (length t) refl in
    let back : drop (length t) path ≡ after = ap (drop (length t)) e ∙ drop_at t after (length t) refl in
    let le : length t ≤ length path = omega (arith, ap length e, length-append t after) in
    rw (← back) (IsUtf8-drop path (length t) u (IsCharBoundary-from_take path (length t) u le (rw front v)))

-- ---- the steps

module _ (limits : List (Option Text)) where
  -- what holds of the parts that follow
  abbrev Later : List Part → Type 0
  Later ps = (path : Text) (known : List Text) → IsUtf8 path → AreUtf8 known → IsNumbered ps (length known) (length limits) →
      Tells ps limits known path (first_values (bindings limits ps path known))

  past : (p : Part) (ps : List Part) (known : List Text) (t path : Text) → IsKnown p known t → IsUtf8 t → IsUtf8 path → AreUtf8 known →
      IsNumbered ps (length known) (length limits) → Later ps →
      Tells (p ∷ ps) limits known path (first_values (chosen (begins t path) (bindings limits ps (drop (length t) path) known)))
  past p ps known t path k ut up uk num later =
      let after = drop (length t) path in
      first_chosen (Tells (p ∷ ps) limits known path) (begins t path) (bindings limits ps after known)
      (λ e. let f = begins_then t path e in
      along (first_values (bindings limits ps after known)) after f (later after known (utf8_after path t after up ut f) uk num))
      (λ e. none_known p ps limits known t k path (no_begin t path e))
    where
      along : (o : Option (List Text)) (after : Text) → path ≡ t ++ after → Tells ps limits known after o → Tells (p ∷ ps) limits known path o
      along None after f none = λ more r. none more (before_known p ps limits known t k after more (rw f at r))
      along (Some now) after f (more, same, r) = (
        more,
        same,
        record {
          fits = rw f (past_known p ps limits known t k after more r.fits);
          longest = λ others o. r.longest others (before_known p ps limits known t k after others (rw f at o));
        },
      )

  -- whether the value of this length is one, and what follows with it
  abbrev fits_at : ℕ → ℕ → Text → Bool
  fits_at n k path = is_cut (drop k path) && suits (limit_at limits n) (take k path)

  abbrev next : List Part → Text → List Text → ℕ → List (List Text)
  next ps path known k = bindings limits ps (drop k path) (known ++ take k path ∷ [])

  abbrev at_length : List Part → Text → List Text → ℕ → ℕ → List (List Text)
  at_length ps path known n k = chosen (fits_at n k path) (next ps path known k)

  -- what is known of a value of this length
  abbrev follows_at : List Part → Text → List Text → ℕ → Type 0
  follows_at ps path known k = Tells ps limits (known ++ take k path ∷ []) (drop k path) (first_values (next ps path known k))

  follows : (ps : List Part) (path : Text) (known : List Text) (n k : ℕ) → IsUtf8 path → AreUtf8 known → IsNumbered ps (length known + 1) (length limits) → Later ps →
      k ≤ length path → fits_at n k path ≡ true → follows_at ps path known k
  follows ps path known n k up uk num later le t =
      let b = and_parts (is_cut (drop k path)) (suits (limit_at limits n) (take k path)) t in
      let cut = boundary_of k path le b.0 in
      later (drop k path) (known ++ take k path ∷ []) (IsUtf8-drop path k up cut) (utf8_more known (take k path) uk (IsUtf8-take path k up cut)) (rw (length-append known (take k path ∷ [])) num)

  found : (ps : List Part) (path : Text) (known : List Text) (k : ℕ) → IsUtf8 path → length known < length limits → k ≤ length path → fits_at (length known) k path ≡ true →
      ((value : Text) (more : List Text) → RestFits (wild (length known) ∷ ps) limits known path (value ∷ more) → length value ≤ k) →
      (v : List Text) → Tells ps limits (known ++ take k path ∷ []) (drop k path) (Some v) → Tells (wild (length known) ∷ ps) limits known path (Some v)
  found ps path known k up room le t below v (more, same, r) =
      let value = take k path in
      let b = and_parts (is_cut (drop k path)) (suits (limit_at limits (length known)) value) t in
      let cut = boundary_of k path le b.0 in
      let suit : Suits (get_or limits (length known) None) value = suits_then (limit_at limits (length known)) value b.1 in
      let long : length value ≡ k = length-take-le k path le in
      let at_most : (other : Text) (others : List Text) → RestFits (wild (length known) ∷ ps) limits known path (other ∷ others) → length other ≤ length value =
      λ other others q. let h = below other others q in omega (arith, long) in (
        value ∷ more,
        same ∙ append_assoc known (value ∷ []) more,
        found_wild ps limits known room path value (drop k path) more (sym (take-append-drop k path)) (IsUtf8-take path k up cut) suit r at_most,
      )

  vain : (ps : List Part) (path : Text) (known : List Text) (k : ℕ) (room : length known < length limits) → IsUtf8 path → k ≤ length path →
      (fits_at (length known) k path ≡ true → (more : List Text) → RestFits ps limits (known ++ take k path ∷ []) (drop k path) more → ⊥) →
      (more : List Text) → Splits ps limits known room path (take k path) more → ⊥
  vain ps path known k room up le none more s =
      let cut = cut_at k path (IsCharBoundary-from_take path k up le s.utf8) in
      let t : fits_at (length known) k path ≡ true = and_from (is_cut (drop k path)) (suits (limit_at limits (length known)) (take k path)) cut (then_suits (get_or limits (length known) None) (take k path) s.suit) in
      no_rest ps limits known room path (take k path) (drop k path) (sym (take-append-drop k path)) (none t) more s

  -- where no value of this length fits and none is longer
  shorter_all : (ps : List Part) (path : Text) (known : List Text) (k : ℕ) (room : length known < length limits) → k ≤ length path →
      ((value : Text) (more : List Text) → RestFits (wild (length known) ∷ ps) limits known path (value ∷ more) → length value ≤ k) →
      ((more : List Text) → Splits ps limits known room path (take k path) more → ⊥) →
      (value : Text) (more : List Text) → RestFits (wild (length known) ∷ ps) limits known path (value ∷ more) → length value + (length path + 1 - k) ≤ length path
  shorter_all ps path known k room le all none value more r =
      let same : length path - (length path - k) ≡ k = omega arith in
      let P : ℕ → Type 0 = λ n. (m : List Text) → Splits ps limits known room path (take n path) m → ⊥ in
      let b = shorter ps limits known room path (length path - k) (omega arith) (λ o m q. let h = all o m q in omega arith) (subst P (sym same) none) value more r in
      omega arith

  scan : (ps : List Part) (path : Text) (known : List Text) (m : ℕ) → IsUtf8 path → AreUtf8 known → length known < length limits →
      IsNumbered ps (length known + 1) (length limits) → Later ps → m ≤ length path + 1 →
      ((value : Text) (more : List Text) → RestFits (wild (length known) ∷ ps) limits known path (value ∷ more) → length value + (length path + 1 - m) ≤ length path) →
      Tells (wild (length known) ∷ ps) limits known path (first_values (flat_map (at_length ps path known (length known)) (reverse (range_with_len 0 m))))
  scan ps path known zero up uk room num later le below =
      none_left ps limits known room path (length path + 1) (omega arith) (λ value more r. let b = below value more r in omega arith)
  scan ps path known (suc k) up uk room num later le below =
      let T : Option (List Text) → Type 0 = Tells (wild (length known) ∷ ps) limits known path in
      let F : Option (List Text) → Type 0 = Tells ps limits (known ++ take k path ∷ []) (drop k path) in
      let here : k ≤ length path = omega arith in
      let all : (value : Text) (more : List Text) → RestFits (wild (length known) ∷ ps) limits known path (value ∷ more) → length value ≤ k =
      λ value more r. let b = below value more r in omega arith in
      let L : List ℕ → Type 0 = λ ks. T (first_values (flat_map (at_length ps path known (length known)) ks)) in
      subst L (sym (down k))
      (first_step T (fits_at (length known) k path) (next ps path known k) (flat_map (at_length ps path known (length known)) (reverse (range_with_len 0 k)))
      (λ t v f. found ps path known k up room here t all v (subst F f (follows ps path known (length known) k up uk num later here t)))
      (λ none. scan ps path known k up uk room num later (omega arith)
      (shorter_all ps path known k room here all (vain ps path known k room up here (λ t. subst F (none t) (follows ps path known (length known) k up uk num later here t))))))

  at_wild : (n : ℕ) (ps : List Part) (path : Text) (known : List Text) (o : Option Text) → slice_get known n ≡ o → IsUtf8 path → AreUtf8 known →
      IsNumbered (wild n ∷ ps) (length known) (length limits) → Later ps →
      Tells (wild n ∷ ps) limits known path (first_values (elim o as (λ _. List (List Text)) [
        | Some v ↦ chosen (begins v path) (bindings limits ps (drop (length v) path) known)
        | None ↦ flat_map (at_length ps path known n) (reverse (range_with_len 0 (length path + 1)))
      ]))
  at_wild n ps path known (Some v) e up uk (inl num) later =
      let lt = slice_get_within known n v e in
      let at : get_or known n [] ≡ v = get_or_from_slice_get known n v [] e in
      past (wild n) ps known v path (rw at at (wild_known n known lt)) (rw at at (utf8_at known n uk lt)) up uk num.1 later
  at_wild n ps path known (Some v) e up uk (inr num) later = absurd (let lt = slice_get_within known n v e in let s = num.0 in omega arith)
  at_wild n ps path known None e up uk (inl num) later = absurd (let f = sym e ∙ slice_get-get_or known n [] num.0 in cc)
  at_wild n ps path known None e up uk (inr num) later =
      let P : ℕ → Type 0 = λ k. Tells (wild k ∷ ps) limits known path (first_values (flat_map (at_length ps path known k) (reverse (range_with_len 0 (length path + 1))))) in
      subst P (sym num.0) (scan ps path known (length path + 1) up uk num.1 num.2 later (omega arith)
      (λ value more r. let s = split ps limits known num.1 path value more r in omega (arith, ap length s.begins, length-append value s.after)))

  first_binding : (ps : List Part) → AreTexts ps → Later ps
  first_binding [] texts [] known up uk num = ([], sym (append-nil known), found_end limits known num [] refl)
  first_binding [] texts (b ∷ path) known up uk num = none_end limits known num (b ∷ path) (λ e. absurd cc)
  first_binding (text t ∷ ps) texts path known up uk num =
      past (text t) ps known t path (text_known t known) texts.0 up uk num (first_binding ps texts.1)
  first_binding (wild n ∷ ps) texts path known up uk num =
      at_wild n ps path known (slice_get known n) refl up uk num (first_binding ps texts)

-- ---- whole bindings

binding_of_rest : (p : Shape) (path : Text) (values : List Text) → IsRest p.parts (map (λ w. w.limit) p.wildcards) [] path values → IsBinding p path values
binding_of_rest p path values r = record {
  fits = record { fills = r.fits.fills; suit = r.fits.suit };
  longest = λ others f. r.longest others (record { fills = f.fills; suit = f.suit });
}

tells_whole : (p : Shape) (path : Text) (o : Option (List Text)) → Tells p.parts (map (λ w. w.limit) p.wildcards) [] path o →
    ((values : List Text) → o ≡ Some values → IsBinding p path values) × (o ≡ None → (values : List Text) → ¬ Fits p path values)
tells_whole p path None none = (λ values e. absurd cc, λ e values f. none values (record { fills = f.fills; suit = f.suit }))
tells_whole p path (Some now) (more, same, r) = (
  λ values e.
      let s : values ≡ more = cc in
      rw s (binding_of_rest p path more r),
  λ e. absurd cc,
)

pub bound_is_binding : BoundIsBinding
bound_is_binding p path num texts utf8 =
    let limits : List (Option Text) = map (λ (w : Wildcard). w.limit) p.wildcards in
    tells_whole p path (bound p path)
    (first_binding limits p.parts texts path [] utf8 tt (rw (length-map p.wildcards (λ (w : Wildcard). w.limit)) num))
