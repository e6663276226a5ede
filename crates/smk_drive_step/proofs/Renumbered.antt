-- Children whose jobs have new numbers.
use Rattle.std.proofs.Common.{◌≡◌, ◌<◌, ◌≤◌, ℕ, zero, suc, List, [], ◌∷◌, ◌++◌, length, Option, option_map, refl, ap, arith}
use Rattle.std.specs.Prelude.{slice_index_or, slice_set}
use Rattle.smk_drive_step.specs.declared.children.Child.{Child}
use Rattle.smk_drive_step.specs.Crews.{changed_at, renumbered, with_job}

-- the last number is given first
pub renumbered_last :
    (places : List (Option Child)) (numbers : List ℕ) (n : ℕ) →
    renumbered numbers (changed_at (option_map (with_job n)) (length numbers) places) ≡ renumbered (numbers ++ n ∷ []) places
renumbered_last [] [] n = refl
renumbered_last (p ∷ places) [] n = refl
renumbered_last [] (m ∷ numbers) n = refl
renumbered_last (p ∷ places) (m ∷ numbers) n = ap (λ ps. option_map (with_job m) p ∷ ps) (renumbered_last places numbers n)

-- what is put in the place is the changed element
pub changed_there : {A : Type 0} (f : A → A) (xs : List A) (i : ℕ) (x : A) → i < length xs → slice_set xs i (f (slice_index_or xs i x)) ≡ changed_at f i xs
changed_there f [] i x lt = refl
changed_there f (y ∷ xs) zero x lt = refl
changed_there f (y ∷ xs) (suc i) x lt = ap (λ ys. y ∷ ys) (changed_there f xs i x (omega (arith, lt)))

-- beyond the end nothing is changed
pub changed_beyond : {A : Type 0} (f : A → A) (xs : List A) (i : ℕ) → length xs ≤ i → changed_at f i xs ≡ xs
changed_beyond f [] i le = refl
changed_beyond f (y ∷ xs) zero le = absurd (omega (arith, le))
changed_beyond f (y ∷ xs) (suc i) le = ap (λ ys. y ∷ ys) (changed_beyond f xs i (omega (arith, le)))
