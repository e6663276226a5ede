-- Lists that are gone over side by side, and elements by number.
use Rattle.std.proofs.Common.{◌≡◌, ◌∙◌, ◌<◌, ℕ, zero, suc, length, take, drop, arith, Bool, true, false, cond, ◌&&◌, List, [], ◌∷◌, ◌++◌, filter, zip, refl, sym, ap}
use Rattle.std.specs.Prelude.{nat_lt}
use Rattle.std.specs.List.{list_any}
use Rattle.std.proofs.lemmas.Bool.{ltb-false}
use Rattle.std.proofs.lemmas.List.{drop_all}
use Rattle.smk_plan_states.specs.declared.lines.Output.{Output}
use Rattle.smk_plan_states.specs.Ranking.{is_gone_with, any_gone}

zip_none : {A B : Type 0} (xs : List A) → zip {K = A} {X = B} xs [] ≡ []
zip_none [] = refl
zip_none (x ∷ xs) = refl

-- nothing is left to be told
pub gone_past :
    (test : Output → Bool) (outputs : List Output) (flags : List Bool) (i : ℕ) → false ≡ nat_lt i (length flags) →
    any_gone test outputs flags ≡ any_gone test (drop i outputs) (drop i flags) → false ≡ any_gone test outputs flags
gone_past test outputs flags i past e =
    sym
    (e
    ∙ ap (λ (fs : List Bool). any_gone test (drop i outputs) fs) (drop_all i flags (ltb-false i (length flags) (sym past)))
    ∙ ap (list_any (is_gone_with test)) (zip_none (drop i outputs)))

-- nor does any pass behind the end of the rows
pub rows_past :
    {A B : Type 0} (test : A × B → Bool) (xs : List A) (rows : List B) (i : ℕ) → false ≡ nat_lt i (length rows) →
    list_any test (zip xs rows) ≡ list_any test (zip (drop i xs) (drop i rows)) → false ≡ list_any test (zip xs rows)
rows_past {A} {B} test xs rows i past e =
    sym
    (e
    ∙ ap (λ (rs : List B). list_any test (zip (drop i xs) rs)) (drop_all i rows (ltb-false i (length rows) (sym past)))
    ∙ ap (list_any test) (zip_none (drop i xs)))

-- the element in a place, with what stands before it and after it
pub split_at :
    {A : Type 0} (xs : List A) (n : ℕ) → n < length xs →
    (x : A) × (xs ≡ take n xs ++ x ∷ drop (suc n) xs) × (length (take n xs) ≡ n) × (take (suc n) xs ≡ take n xs ++ x ∷ []) × (drop n xs ≡ x ∷ drop (suc n) xs)
split_at [] n h = absurd (omega arith)
split_at (x ∷ xs) zero h = (x, refl, refl, refl, refl)
split_at (x ∷ xs) (suc n) h = let r = split_at xs n (omega arith) in (r.0, ap (λ ys. x ∷ ys) r.1, ap suc r.2, ap (λ ys. x ∷ ys) r.3, r.4)

pub filter_both : {A : Type 0} (a b : A → Bool) (xs : List A) → filter a (filter b xs) ≡ filter (λ x. b x && a x) xs
filter_both a b [] = refl
filter_both a b (x ∷ xs) = go (b x) (filter_both a b xs)
  where
    go : (v : Bool) → filter a (filter b xs) ≡ filter (λ x. b x && a x) xs → filter a (cond v (x ∷ filter b xs) (filter b xs)) ≡ cond (v && a x) (x ∷ filter (λ x. b x && a x) xs) (filter (λ x. b x && a x) xs)
    go true e = ap (λ l. cond (a x) (x ∷ l) l) e
    go false e = e
