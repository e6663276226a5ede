-- The levels that are open in written lines.
use Rattle.std.proofs.Common.{◌≡◌, ℕ, zero, suc, ◌+◌, ◌-◌, ◌*◌, ◌<◌, ◌≤◌, true, false, cond, ltb, List, [], ◌∷◌, ◌++◌, length, take, get_or, Option, Some, None, Result, Ok, Err, refl, sym, ap, subst, ◌∙◌, arith, inl, inr}
use Rattle.std.proofs.lemmas.Bool.{cases_lt, lt-ltb, false_from_ne_true, ltb-true}
use Rattle.std.proofs.lemmas.List.{length-append, length-replicate, get_or_append_left, get_or_push, take_all, take-append-le, take-replicate}
use Rattle.std.proofs.lemmas.List.Sums.{prefix_len_is}
use Rattle.std.proofs.lemmas.Slice.Eq.{bytes_eq-Decides}
use Rattle.std.specs.Prelude.{position, nat_eq, nat_lt, not, replicate}
use Rattle.std.specs.List.{prefix_len, starts_with}
use Rattle.std.specs.Str.{bytes_eq}
use lib.Pointwise.{pointwise}
use Rattle.smk_lex.specs.declared.token.TokenKind.TheVariants as kind
use Rattle.smk_lex.specs.declared.token.Token.{Token}
use Rattle.smk_lex.specs.declared.token.LexFault.{LexFault}
use Rattle.smk_lex.specs.declared.token.LexFault.TheVariants.{BadIndent}
use Rattle.smk_lex.specs.Pieces.{Bytes}
use Rattle.smk_lex.specs.Layout.{token, dedents, innermost, at_level, indented}
use Rattle.smk_parse_print.specs.Lines.{indentation, turn}

-- the indentations up to a level
abbrev pub open_levels : ℕ → List Bytes
open_levels zero = indentation 0 ∷ []
open_levels (suc k) = open_levels k ++ indentation (suc k) ∷ []

pub length-open : (k : ℕ) → length (open_levels k) ≡ suc k
length-open zero = refl
length-open (suc k) = omega (arith, length-append (open_levels k) (indentation (suc k) ∷ []), length-open k)

open-at : (k i : ℕ) → i ≤ k → get_or (open_levels k) i [] ≡ indentation i
open-at zero i h = let e : i ≡ 0 = omega arith in subst (λ n. get_or (open_levels 0) n [] ≡ indentation n) (sym e) refl
open-at (suc k) i h = elim (cases_lt i (suc k)) [
  | inl lt ↦ get_or_append_left (open_levels k) (indentation (suc k) ∷ []) [] i (omega (arith, length-open k)) ∙ open-at k i (omega arith)
  | inr ge ↦
      let e : i ≡ suc k = omega arith in
      let n : length (open_levels k) ≡ i = length-open k ∙ sym e in
      get_or_push (open_levels k) (indentation (suc k)) [] i n ∙ ap indentation (sym e)
]

open-front : (k i : ℕ) → i ≤ k → take (i + 1) (open_levels k) ≡ open_levels i
open-front zero i h = let e : i ≡ 0 = omega arith in subst (λ n. take (n + 1) (open_levels 0) ≡ open_levels n) (sym e) refl
open-front (suc k) i h = elim (cases_lt i (suc k)) [
  | inl lt ↦ take-append-le (i + 1) (open_levels k) (indentation (suc k) ∷ []) (omega (arith, length-open k)) ∙ open-front k i (omega arith)
  | inr ge ↦
      let e : i ≡ suc k = omega arith in
      take_all (i + 1) (open_levels (suc k)) (omega (arith, length-open (suc k))) ∙ ap open_levels (sym e)
]

innermost-open : (k : ℕ) → innermost (open_levels k) ≡ indentation k
innermost-open k =
    let n : length (open_levels k) - 1 ≡ k = omega (arith, length-open k) in
    ap (λ i. get_or (open_levels k) i []) n ∙ open-at k k (omega arith)

same_levels : (i j : ℕ) → indentation i ≡ indentation j → i ≡ j
same_levels i j e =
    let a : length (indentation i) ≡ 4 * i = length-replicate {A = ℕ} (4 * i) 32 in
    let b : length (indentation j) ≡ 4 * j = length-replicate {A = ℕ} (4 * j) 32 in
    let c : length (indentation i) ≡ length (indentation j) = ap length e in
    omega arith

is_level : (i : ℕ) → bytes_eq (indentation i) (indentation i) ≡ true
is_level i = (bytes_eq-Decides (indentation i) (indentation i)).1 refl

other_level : (i j : ℕ) → (i ≡ j → ⊥) → bytes_eq (indentation i) (indentation j) ≡ false
other_level i j ne = false_from_ne_true (bytes_eq (indentation i) (indentation j)) (λ e. ne (same_levels i j ((bytes_eq-Decides (indentation i) (indentation j)).0 e)))

abbrev found : ℕ → ℕ → Option ℕ
found n len = cond (ltb n len) (Some n) None

-- how many levels are passed over
passed : (k i n : ℕ) → n ≤ suc k → ((j : ℕ) → j < n → j ≡ i → ⊥) → (n < suc k → n ≡ i) → prefix_len (λ (x : Bytes). not (bytes_eq (indentation i) x)) (open_levels k) ≡ n
passed k i n le before here =
    let len : length (open_levels k) ≡ suc k = length-open k in
    prefix_len_is (λ (x : Bytes). not (bytes_eq (indentation i) x)) (open_levels k) n [] (omega arith)
    (λ j lt. ap (λ (x : Bytes). not (bytes_eq (indentation i) x)) (open-at k j (omega arith)) ∙ ap not (other_level i j (λ e. before j lt (sym e))))
    (λ lt.
    let some : n < suc k = omega arith in
    ap (λ (x : Bytes). not (bytes_eq (indentation i) x)) (open-at k n (omega arith)) ∙ ap (λ m. not (bytes_eq (indentation i) (indentation m))) (here some) ∙ ap not (is_level i))

place-open : (k i : ℕ) → i ≤ k → position (bytes_eq (indentation i)) (open_levels k) ≡ Some i
place-open k i h =
    let len : length (open_levels k) ≡ suc k = length-open k in
    let some : ltb i (suc k) ≡ true = lt-ltb i (suc k) (omega arith) in
    ap (λ n. found n (length (open_levels k))) (passed k i i (omega arith) (λ j lt e. omega arith) (λ _. refl)) ∙ ap (found i) len ∙ ap (λ b. cond b (Some i) None) some

place-deeper : (k : ℕ) → position (bytes_eq (indentation (suc k))) (open_levels k) ≡ None
place-deeper k =
    let len : length (open_levels k) ≡ suc k = length-open k in
    let none : ltb (suc k) (suc k) ≡ false = false_from_ne_true (ltb (suc k) (suc k)) (λ e. omega (arith, ltb-true (suc k) (suc k) e)) in
    ap (λ n. found n (length (open_levels k))) (passed k (suc k) (suc k) (omega arith) (λ j lt e. omega arith) (λ lt. absurd (omega arith))) ∙ ap (found (suc k)) len ∙ ap (λ b. cond b (Some (suc k)) None) none

same_run : (n : ℕ) → pointwise nat_eq (replicate n 32) (replicate n 32) ≡ true
same_run zero = refl
same_run (suc n) = same_run n

goes_deeper : (k : ℕ) → starts_with nat_eq (indentation (suc k)) (indentation k) ≡ true
goes_deeper k =
    let front : take (length (indentation k)) (indentation (suc k)) ≡ indentation k =
    ap (λ n. take n (indentation (suc k))) (length-replicate {A = ℕ} (4 * k) 32) ∙ take-replicate {X = ℕ} (4 * k) (4 * suc k) 32 (omega arith) in
    ap (pointwise nat_eq (indentation k)) front ∙ same_run (4 * k)

abbrev pub levels_ok : List Bytes × List Token → Result (List Bytes × List Token) LexFault
levels_ok x = Ok x

-- a line that is at most one level deeper turns to its level
pub indented-open : (above level at : ℕ) → level ≤ above + 1
    → indented (open_levels above) (indentation level) at (at + 4 * level) ≡ levels_ok (open_levels level, turn above level at)
indented-open above level at le = elim (cases_lt above level) [
  | inr within ↦
      let n : length (open_levels above) - (level + 1) ≡ above - level = omega (arith, length-open above) in
      let shallow : nat_lt above level ≡ false = false_from_ne_true (nat_lt above level) (λ e. omega (arith, ltb-true above level e)) in
      let turned : turn above level at ≡ dedents (above - level) (at + 4 * level) = rw shallow refl in
      ap (at_level (open_levels above) (indentation level) at (at + 4 * level)) (place-open above level within)
      ∙ ap (λ (v : List Bytes). levels_ok (v, dedents (length (open_levels above) - (level + 1)) (at + 4 * level))) (open-front above level within)
      ∙ ap (λ m. levels_ok (open_levels level, dedents m (at + 4 * level))) n ∙ ap (λ (ts : List Token). levels_ok (open_levels level, ts)) (sym turned)
  | inl deeper ↦
      let is : level ≡ suc above = omega arith in
      let deep : nat_lt above (suc above) ≡ true = lt-ltb above (suc above) (omega arith) in
      let at_one : indented (open_levels above) (indentation (suc above)) at (at + 4 * suc above) ≡ levels_ok (open_levels (suc above), turn above (suc above) at) =
      ap (at_level (open_levels above) (indentation (suc above)) at (at + 4 * suc above)) (place-deeper above)
      ∙ ap (λ (v : Bytes). cond (starts_with nat_eq (indentation (suc above)) v) (levels_ok (open_levels (suc above), token kind.Indent at (at + 4 * suc above) ∷ [])) (Err (BadIndent at))) (innermost-open above)
      ∙ ap (λ b. cond b (levels_ok (open_levels (suc above), token kind.Indent at (at + 4 * suc above) ∷ [])) (Err (BadIndent at))) (goes_deeper above)
      ∙ ap (λ b. levels_ok (open_levels (suc above), cond b (token kind.Indent at (at + 4 * suc above) ∷ []) (dedents (above - suc above) (at + 4 * suc above)))) (sym deep) in
      subst (λ n. indented (open_levels above) (indentation n) at (at + 4 * n) ≡ levels_ok (open_levels n, turn above n at)) (sym is) at_one
]
