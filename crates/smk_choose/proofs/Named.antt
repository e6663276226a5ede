-- A binding put by name, pair by pair.
use Rattle.std.proofs.Common.{◌≡◌, ℕ, zero, suc, ◌+◌, ◌<◌, ◌≤◌, true, false, cond, List, [], ◌∷◌, ◌++◌, take, drop, length, get_or, refl, sym, ap, ◌∙◌, arith, append_assoc, append-nil}
use Rattle.std.specs.List.{insert}
use Rattle.std.proofs.lemmas.List.{at_drop_more, at_drop_all, take_more, drop_more}
use Rattle.smk_base.specs.declared.tree.Pair.{Pair}
use Rattle.smk_pattern.specs.Reading.{is_below, put, by_name}

-- some pairs are put by name, and the others, before them, aren't yet
pub record Done (all left done : List Pair) : Type 0 where
  pub rest : List Pair
  pub whole : all ≡ left ++ rest
  pub named : done ≡ by_name rest

pub done_none : (all done : List Pair) → done ≡ [] → Done all all done
done_none all done e = record { rest = []; whole = sym (append-nil all); named = e }

pub done_more : (all old left done new : List Pair) (pair : Pair) → Done all old done → old ≡ left ++ pair ∷ [] → new ≡ put pair done → Done all left new
done_more all old left done new pair d e n = record {
  rest = pair ∷ d.rest;
  whole = d.whole ∙ ap (λ xs. xs ++ d.rest) e ∙ append_assoc left (pair ∷ []) d.rest;
  named = n ∙ ap (put pair) d.named;
}

pub done_all : (all left done : List Pair) → Done all left done → left ≡ [] → done ≡ by_name all
done_all all left done d e = d.named ∙ ap by_name (sym (d.whole ∙ ap (λ xs. xs ++ d.rest) e))

insert_splits : (xs : List Pair) (i : ℕ) (p : Pair) → i ≤ length xs → insert xs i p ≡ take i xs ++ p ∷ drop i xs
insert_splits xs zero p le = refl
insert_splits [] (suc i) p le = absurd (omega (arith, le))
insert_splits (x ∷ xs) (suc i) p le = ap (λ ys. x ∷ ys) (insert_splits xs i p (omega (arith, le)))

pub put_here : (pair : Pair) (pairs : List Pair) (i : ℕ) (other : Pair) → i < length pairs → other ≡ get_or pairs i other →
    is_below pair.name other.name ≡ true → put pair pairs ≡ take i pairs ++ put pair (drop i pairs) → insert pairs i pair ≡ put pair pairs
put_here pair pairs i other lt at e w =
    insert_splits pairs i pair (omega (arith, lt))
    ∙ ap (λ ys. take i pairs ++ ys) (sym (
    at_drop_more (put pair) pairs i other lt
    ∙ ap (λ o. put pair (o ∷ drop (i + 1) pairs)) (sym at)
    ∙ ap (λ b. cond b (pair ∷ other ∷ drop (i + 1) pairs) (other ∷ put pair (drop (i + 1) pairs))) e
    ∙ ap (λ ys. pair ∷ ys) (ap (λ o. o ∷ drop (i + 1) pairs) at ∙ sym (drop_more pairs i other lt))))
    ∙ sym w

pub put_after : (pair : Pair) (pairs : List Pair) (i : ℕ) (other : Pair) → i < length pairs → other ≡ get_or pairs i other →
    is_below pair.name other.name ≡ false → put pair pairs ≡ take i pairs ++ put pair (drop i pairs) →
    put pair pairs ≡ take (i + 1) pairs ++ put pair (drop (i + 1) pairs)
put_after pair pairs i other lt at e w =
    w ∙ ap (λ ys. take i pairs ++ ys) (
    at_drop_more (put pair) pairs i other lt
    ∙ ap (λ o. put pair (o ∷ drop (i + 1) pairs)) (sym at)
    ∙ ap (λ b. cond b (pair ∷ other ∷ drop (i + 1) pairs) (other ∷ put pair (drop (i + 1) pairs))) e
    ∙ ap (λ o. o ∷ put pair (drop (i + 1) pairs)) at)
    ∙ sym (append_assoc (take i pairs) (get_or pairs i other ∷ []) (put pair (drop (i + 1) pairs)))
    ∙ ap (λ ys. ys ++ put pair (drop (i + 1) pairs)) (sym (take_more pairs i other lt))

pub put_last : (pair : Pair) (pairs : List Pair) (i : ℕ) → length pairs ≤ i → i ≤ length pairs → put pair pairs ≡ take i pairs ++ put pair (drop i pairs) →
    insert pairs i pair ≡ put pair pairs
put_last pair pairs i ge le w =
    insert_splits pairs i pair le
    ∙ ap (λ ys. take i pairs ++ ys) (at_drop_all (λ ys. pair ∷ ys) pairs i ge ∙ sym (at_drop_all (put pair) pairs i ge))
    ∙ sym w
