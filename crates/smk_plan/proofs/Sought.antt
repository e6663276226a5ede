-- Looking up what has this path, among what rises by paths, by halves.
use Rattle.std.proofs.Common.{◌≡◌, inl, inr, ℕ, zero, suc, ◌+◌, ◌<◌, ◌≤◌, true, false, cond, List, [], ◌∷◌, map, length, get_or, Some, None, Ok, Err, refl, sym, ap, subst, ◌∙◌, arith, add-one}
use Rattle.std.specs.Prelude.{bytes_eq}
use Rattle.std.specs.List.{find}
use Rattle.std.specs.List.Sorted.{IsBinarySearchResult, IsSortedBy}
use Rattle.std.specs.Cmp.Lexicographic.{slice_cmp}
use Rattle.std.specs.Ordering.{nat_cmp, is_lt, is_eq, ordering_reverse}
use Rattle.std.specs.declared.cmp.Ordering.TheVariants.{Less, Equal, Greater}
use Rattle.std.proofs.lemmas.Cmp.{nat_list_cmp_total, tied_itself}
use Rattle.std.proofs.lemmas.Map.Text.{is_eq-slice_cmp}
use Rattle.std.proofs.lemmas.List.Sorted.{searchable_from_sorted}
use Rattle.std.proofs.lemmas.Bool.{cases_lt}
use Rattle.smk_base.proofs.Places.{same_place, place_itself}
use Rattle.smk_base.proofs.Under.{false_unless}
use Rattle.smk_world.specs.Trees.{Path}
use Rattle.smk_record.specs.Records.{are_rising}
use Rattle.smk_record.proofs.Rising.{Above, less_itself, rising_rest, rising_first}

falls_back : (p q : Path) → slice_cmp nat_cmp p q ≡ Less → is_lt (slice_cmp nat_cmp q p) ≡ false
falls_back p q h = ap is_lt (nat_list_cmp_total.antisymm q p ∙ ap ordering_reverse h)

same_name : (p q : Path) → slice_cmp nat_cmp p q ≡ Equal → p ≡ q
same_name p q h = same_place p q (sym (is_eq-slice_cmp p q) ∙ ap is_eq h)

module _ {A : Type 0} (key : A → Path) where
  above_at : (p : Path) (xs : List A) (i : ℕ) (d : A) → Above p (map key xs) → i < length xs → slice_cmp nat_cmp p (key (get_or xs i d)) ≡ Less
  above_at p [] i d all lt = absurd (omega arith)
  above_at p (x ∷ xs) zero d all lt = all.0
  above_at p (x ∷ xs) (suc i) d all lt = above_at p xs i d all.1 (omega arith)

  rising_at : (xs : List A) (k : ℕ) (d : A) → are_rising (map key xs) ≡ true → k + 1 < length xs → slice_cmp nat_cmp (key (get_or xs k d)) (key (get_or xs (k + 1) d)) ≡ Less
  rising_at [] k d h lt = absurd (omega arith)
  rising_at (x ∷ xs) zero d h lt = above_at (key x) xs 0 d (rising_first (key x) (map key xs) h) (omega arith)
  rising_at (x ∷ xs) (suc k) d h lt =
      rw add-one (subst (λ j. slice_cmp nat_cmp (key (get_or xs k d)) (key (get_or xs j d)) ≡ Less) (add-one k) (rising_at xs k d (rising_rest (key x) (map key xs) h) (omega arith)))

  sorted : (xs : List A) → are_rising (map key xs) ≡ true → IsSortedBy (λ (a b : A). is_lt (slice_cmp nat_cmp (key a) (key b))) xs
  sorted xs h = λ k d low lt. falls_back (key (get_or xs k d)) (key (get_or xs (k + 1) d)) (rising_at xs k d h lt)

  found_there : (p : Path) (xs : List A) (i : ℕ) (d : A) → are_rising (map key xs) ≡ true → i < length xs → key (get_or xs i d) ≡ p → Some (get_or xs i d) ≡ find (λ x. bytes_eq (key x) p) xs
  found_there p [] i d h lt is = absurd (omega arith)
  found_there p (x ∷ xs) zero d h lt is = sym (ap (λ b. cond b (Some x) (find (λ y. bytes_eq (key y) p) xs)) (ap (λ k. bytes_eq k p) is ∙ place_itself p))
  found_there p (x ∷ xs) (suc i) d h lt is =
      let below : slice_cmp nat_cmp (key x) p ≡ Less = subst (λ k. slice_cmp nat_cmp (key x) k ≡ Less) is (above_at (key x) xs i d (rising_first (key x) (map key xs) h) (omega arith)) in
      let here : bytes_eq (key x) p ≡ false = false_unless (bytes_eq (key x) p) (λ same. less_itself p (subst (λ k. slice_cmp nat_cmp k p ≡ Less) (same_place (key x) p same) below)) in
      found_there p xs i d (rising_rest (key x) (map key xs) h) (omega arith) is ∙ sym (ap (λ b. cond b (Some x) (find (λ y. bytes_eq (key y) p) xs)) here)

  none_there : (p : Path) (xs : List A) → ((k : ℕ) (d : A) → k < length xs → key (get_or xs k d) ≡ p → ⊥) → None ≡ find (λ x. bytes_eq (key x) p) xs
  none_there p [] none = refl
  none_there p (x ∷ xs) none =
      let here : bytes_eq (key x) p ≡ false = false_unless (bytes_eq (key x) p) (λ same. none 0 x (omega arith) (same_place (key x) p same)) in
      none_there p xs (λ k d lt e. none (suc k) d (omega arith) e) ∙ sym (ap (λ b. cond b (Some x) (find (λ y. bytes_eq (key y) p) xs)) here)

  -- where the search finds a place
  pub found_by : (p : Path) (xs : List A) (i : ℕ) (x : A) → are_rising (map key xs) ≡ true → i < length xs → IsBinarySearchResult {X = A} (λ a. slice_cmp nat_cmp (key a) p) xs (Ok i) → Some (get_or xs i x) ≡ find (λ a. bytes_eq (key a) p) xs
  found_by p xs i x h lt r = found_there p xs i x h lt (same_name (key (get_or xs i x)) p (r x))

  -- where it finds none
  pub missed_by : (p : Path) (xs : List A) (i : ℕ) → are_rising (map key xs) ≡ true → IsBinarySearchResult {X = A} (λ a. slice_cmp nat_cmp (key a) p) xs (Err i) → None ≡ find (λ a. bytes_eq (key a) p) xs
  missed_by p xs i h r =
      let point = r (searchable_from_sorted nat_list_cmp_total key xs p (sorted xs h)) in
      let tied : (k : Path) → k ≡ p → slice_cmp nat_cmp k p ≡ Equal = λ k e. ap (λ x. slice_cmp nat_cmp x p) e ∙ tied_itself nat_list_cmp_total p in
      let low : (k : ℕ) (d : A) → k < i → key (get_or xs k d) ≡ p → ⊥ = λ k d lt e. (let a : slice_cmp nat_cmp (key (get_or xs k d)) p ≡ Less = point.0 k d (omega arith) lt in let b = tied (key (get_or xs k d)) e in cc) in
      let high : (k : ℕ) (d : A) → i ≤ k → k < length xs → key (get_or xs k d) ≡ p → ⊥ = λ k d le lt e. (let a : slice_cmp nat_cmp (key (get_or xs k d)) p ≡ Greater = point.1 k d le lt in let b = tied (key (get_or xs k d)) e in cc) in
      none_there p xs (λ k d lt e. elim (cases_lt k i) [ inl l ↦ low k d l e | inr g ↦ high k d g lt e ])
