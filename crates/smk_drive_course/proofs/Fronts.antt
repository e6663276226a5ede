-- Fronts of lists of events.
use Rattle.std.proofs.Common.{◌≡◌, ◌⊎◌, List, [], ◌∷◌, ◌++◌, refl, sym, inl, inr}
use Rattle.smk_world.specs.declared.event.Event.{Event}

pub head_same : {A : Type 0} (x y : A) (xs ys : List A) → x ∷ xs ≡ y ∷ ys → x ≡ y
head_same x y xs ys h = cc

pub tail_same : {A : Type 0} (x y : A) (xs ys : List A) → x ∷ xs ≡ y ∷ ys → xs ≡ ys
tail_same x y xs ys h = cc

pub none_last : {A : Type 0} (xs : List A) (x : A) → [] ≡ xs ++ x ∷ [] → ⊥
none_last [] x h = cc
none_last (y ∷ xs) x h = cc

pub front_same : {A : Type 0} (xs ys : List A) (x y : A) → xs ++ x ∷ [] ≡ ys ++ y ∷ [] → xs ≡ ys
front_same [] [] x y h = refl
front_same [] (z ∷ ys) x y h = absurd (none_last ys y (tail_same x z [] (ys ++ y ∷ []) h))
front_same (z ∷ xs) [] x y h = absurd (none_last xs x (sym (tail_same z y (xs ++ x ∷ []) [] h)))
front_same (z ∷ xs) (w ∷ ys) x y h =
    let first = head_same z w (xs ++ x ∷ []) (ys ++ y ∷ []) h in
    let rest = front_same xs ys x y (tail_same z w (xs ++ x ∷ []) (ys ++ y ∷ []) h) in
    λ i. first i ∷ rest i

pub last_same : {A : Type 0} (xs ys : List A) (x y : A) → xs ++ x ∷ [] ≡ ys ++ y ∷ [] → x ≡ y
last_same [] [] x y h = head_same x y [] [] h
last_same [] (z ∷ ys) x y h = absurd (none_last ys y (tail_same x z [] (ys ++ y ∷ []) h))
last_same (z ∷ xs) [] x y h = absurd (none_last xs x (sym (tail_same z y (xs ++ x ∷ []) [] h)))
last_same (z ∷ xs) (w ∷ ys) x y h = last_same xs ys x y (tail_same z w (xs ++ x ∷ []) (ys ++ y ∷ []) h)

-- ## Fronts of one log

abbrev pub GoesOn : List Event → List Event → Type 0
GoesOn xs ys = (z : Event) × (zs : List Event) × (ys ≡ xs ++ z ∷ zs)

longer : (x y : Event) (xs ys : List Event) → x ≡ y → GoesOn xs ys → GoesOn (x ∷ xs) (y ∷ ys)
longer x y xs ys e (z, zs, h) = (z, zs, λ i. sym e i ∷ h i)

-- of two fronts of a log one goes on to the other
pub fronts : (xs ys later later2 : List Event) → xs ++ later ≡ ys ++ later2 → (xs ≡ ys) ⊎ GoesOn xs ys ⊎ GoesOn ys xs
fronts [] [] later later2 h = inl refl
fronts [] (y ∷ ys) later later2 h = inr (inl (y, ys, refl))
fronts (x ∷ xs) [] later later2 h = inr (inr (x, xs, refl))
fronts (x ∷ xs) (y ∷ ys) later later2 h = go (fronts xs ys later later2 (tail_same x y (xs ++ later) (ys ++ later2) h))
  where
    first : x ≡ y
    first = head_same x y (xs ++ later) (ys ++ later2) h

    go : (xs ≡ ys) ⊎ GoesOn xs ys ⊎ GoesOn ys xs → (x ∷ xs ≡ y ∷ ys) ⊎ GoesOn (x ∷ xs) (y ∷ ys) ⊎ GoesOn (y ∷ ys) (x ∷ xs)
    go (inl e) = inl (λ i. first i ∷ e i)
    go (inr (inl more)) = inr (inl (longer x y xs ys first more))
    go (inr (inr more)) = inr (inr (longer y x ys xs (sym first) more))
