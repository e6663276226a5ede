-- Membership, and what tests, filters and look-ups say of members.
use Rattle.std.proofs.Common.{◌≡◌, ◌⊎◌, ℕ, zero, suc, Bool, true, false, not, ◌&&◌, ◌||◌, cond, List, [], ◌∷◌, ◌++◌, map, refl, sym, ap, subst, inl, inr, ◌∙◌, arith, Option, Some, None, filter, flat_map, filter_map, find, zip, true≢false}
use Rattle.std.specs.List.{list_any, list_all, cons_option}
use Rattle.std.specs.Prelude.{slice_get}
pub use Rattle.std.proofs.lemmas.Bool.{or_cases, and_from as and_both, or_left as or_first, or_right as or_second, cases_Bool as both}
pub use Rattle.std.proofs.lemmas.Option.{same_Some as some_inj}
use Rattle.smk_chain.specs.Derive.{distinct}
use Rattle.smk_world.specs.Trees.{IsIn}

abbrev pub In : {A : Type 0} → A → List A → Type 0
In x xs = IsIn xs x

-- ## Places in a list

pub get_in : {A : Type 0} (xs : List A) (n : ℕ) (x : A) → slice_get xs n ≡ Some x → IsIn xs x
get_in [] n x h = cc
get_in (z ∷ xs) zero x h = inl (same h)
  where
    same : Some z ≡ Some x → x ≡ z
    same e = cc
get_in (z ∷ xs) (suc n) x h = inr (get_in xs n x h)

-- ## Booleans

pub or_left : (a b : Bool) → (a || b) ≡ false → a ≡ false
or_left true b h = h
or_left false b h = refl

pub or_right : (a b : Bool) → (a || b) ≡ false → b ≡ false
or_right true b h = absurd (true≢false h)
or_right false b h = h

pub and_left : (a b : Bool) → (a && b) ≡ true → a ≡ true
and_left true b h = refl
and_left false b h = h

pub and_right : (a b : Bool) → (a && b) ≡ true → b ≡ true
and_right true b h = h
and_right false b h = absurd (true≢false (sym h))

pub not_true : (a : Bool) → not a ≡ true → a ≡ false
not_true true h = sym h
not_true false h = refl

pub not_false : (a : Bool) → not a ≡ false → a ≡ true
not_false true h = refl
not_false false h = sym h

pub clash_of : (b : Bool) → b ≡ true → b ≡ false → ⊥
clash_of b h k = true≢false (sym h ∙ k)

-- ## options

pub none_some : {A : Type 0} (o : Option A) (n : A) → o ≡ None → o ≡ Some n → ⊥
none_some o n h k = grind arith

-- ## members

module _ {A : Type 0} where
  pub in_left : (x : A) (xs ys : List A) → In x xs → In x (xs ++ ys)
  in_left x [] ys h = absurd h
  in_left x (y ∷ xs) ys (inl e) = inl e
  in_left x (y ∷ xs) ys (inr h) = inr (in_left x xs ys h)

  pub in_right : (x : A) (xs ys : List A) → In x ys → In x (xs ++ ys)
  in_right x [] ys h = h
  in_right x (y ∷ xs) ys h = inr (in_right x xs ys h)

  pub in_either : (x : A) (xs ys : List A) → In x (xs ++ ys) → In x xs ⊎ In x ys
  in_either x [] ys h = inr h
  in_either x (y ∷ xs) ys (inl e) = inl (inl e)
  in_either x (y ∷ xs) ys (inr h) = ⊎_case (in_either x xs ys h)
    where
      ⊎_case : In x xs ⊎ In x ys → In x (y ∷ xs) ⊎ In x ys
      ⊎_case (inl a) = inl (inr a)
      ⊎_case (inr b) = inr b

  pub none_in : (x : A) (xs : List A) → xs ≡ [] → In x xs → ⊥
  none_in x xs e h = subst (In x) e h

  pub cons_nil : (x : A) (xs : List A) → x ∷ xs ≡ [] → ⊥
  cons_nil x xs h = cc

  pub append_nil_left : (xs ys : List A) → xs ++ ys ≡ [] → xs ≡ []
  append_nil_left [] ys h = refl
  append_nil_left (x ∷ xs) ys h = absurd (cons_nil x (xs ++ ys) h)

  pub append_nil_right : (xs ys : List A) → xs ++ ys ≡ [] → ys ≡ []
  append_nil_right [] ys h = h
  append_nil_right (x ∷ xs) ys h = absurd (cons_nil x (xs ++ ys) h)

  module _ (test : A → Bool) where
    pub any_in : (xs : List A) → list_any test xs ≡ true → (x : A) × In x xs × (test x ≡ true)
    any_in [] h = absurd (true≢false (sym h))
    any_in (x ∷ xs) h = go (or_cases (test x) (list_any test xs) h) (any_in xs)
      where
        go : (test x ≡ true) ⊎ (list_any test xs ≡ true) → (list_any test xs ≡ true → (y : A) × In y xs × (test y ≡ true)) → (y : A) × In y (x ∷ xs) × (test y ≡ true)
        go (inl e) ih = (x, inl refl, e)
        go (inr e) ih = let r = ih e in (r.0, inr r.1, r.2)

    pub any_from : (xs : List A) (x : A) → In x xs → test x ≡ true → list_any test xs ≡ true
    any_from [] x h e = absurd h
    any_from (y ∷ xs) x (inl p) e = or_first (test y) (list_any test xs) (subst (λ z. test z ≡ true) p e)
    any_from (y ∷ xs) x (inr h) e = or_second (test y) (list_any test xs) (any_from xs x h e)

    pub any_none : (xs : List A) (x : A) → list_any test xs ≡ false → In x xs → test x ≡ false
    any_none [] x e h = absurd h
    any_none (y ∷ xs) x e (inl p) = subst (λ z. test z ≡ false) (sym p) (or_left (test y) (list_any test xs) e)
    any_none (y ∷ xs) x e (inr h) = any_none xs x (or_right (test y) (list_any test xs) e) h

    pub all_in : (xs : List A) (x : A) → list_all test xs ≡ true → In x xs → test x ≡ true
    all_in [] x e h = absurd h
    all_in (y ∷ xs) x e (inl p) = subst (λ z. test z ≡ true) (sym p) (and_left (test y) (list_all test xs) e)
    all_in (y ∷ xs) x e (inr h) = all_in xs x (and_right (test y) (list_all test xs) e) h

    pub all_from : (xs : List A) → ((x : A) → In x xs → test x ≡ true) → list_all test xs ≡ true
    all_from [] f = refl
    all_from (x ∷ xs) f = and_both (test x) (list_all test xs) (f x (inl refl)) (all_from xs (λ y h. f y (inr h)))

    pub find_in : (xs : List A) (x : A) → find test xs ≡ Some x → In x xs × (test x ≡ true)
    find_in [] x h = absurd (none_some None x refl h)
    find_in (y ∷ xs) x h = go (test y) refl h (find_in xs x)
      where
        go : (b : Bool) → test y ≡ b → cond b (Some y) (find test xs) ≡ Some x → (find test xs ≡ Some x → In x xs × (test x ≡ true)) → In x (y ∷ xs) × (test x ≡ true)
        go true e h ih = let s = some_inj y x h in (inl (sym s), subst (λ z. test z ≡ true) s e)
        go false e h ih = let r = ih h in (inr r.0, r.1)

    pub find_some : (xs : List A) (x : A) → In x xs → test x ≡ true → (y : A) × (find test xs ≡ Some y)
    find_some [] x h e = absurd h
    find_some (y ∷ xs) x h e = go (test y) refl h (λ k. find_some xs x k e)
      where
        tail : In x (y ∷ xs) → test y ≡ false → In x xs
        tail (inl p) k = absurd (clash_of (test x) e (subst (λ z. test z ≡ false) (sym p) k))
        tail (inr h) k = h

        go : (b : Bool) → test y ≡ b → In x (y ∷ xs) → (In x xs → (z : A) × (find test xs ≡ Some z)) → (z : A) × (cond b (Some y) (find test xs) ≡ Some z)
        go true k h ih = (y, refl)
        go false k h ih = ih (tail h k)

    pub in_filter : (xs : List A) (x : A) → In x xs → test x ≡ true → In x (filter test xs)
    in_filter [] x h e = absurd h
    in_filter (y ∷ xs) x (inl p) e = rw (subst (λ z. test z ≡ true) p e) (inl p)
    in_filter (y ∷ xs) x (inr h) e = go (test y) (in_filter xs x h e)
      where
        go : (b : Bool) → In x (filter test xs) → In x (cond b (y ∷ filter test xs) (filter test xs))
        go true h = inr h
        go false h = h

    pub filter_in : (xs : List A) (x : A) → In x (filter test xs) → In x xs × (test x ≡ true)
    filter_in [] x h = absurd h
    filter_in (y ∷ xs) x h = go (test y) refl h (filter_in xs x)
      where
        go : (b : Bool) → test y ≡ b → In x (cond b (y ∷ filter test xs) (filter test xs)) → (In x (filter test xs) → In x xs × (test x ≡ true)) → In x (y ∷ xs) × (test x ≡ true)
        go true e (inl p) ih = (inl p, subst (λ z. test z ≡ true) (sym p) e)
        go true e (inr h) ih = let r = ih h in (inr r.0, r.1)
        go false e h ih = let r = ih h in (inr r.0, r.1)

    pub filter_nil : (xs : List A) (x : A) → filter test xs ≡ [] → In x xs → test x ≡ false
    filter_nil xs x e h = go (test x) refl
      where
        go : (b : Bool) → test x ≡ b → b ≡ false
        go true k = absurd (none_in x (filter test xs) e (in_filter xs x h k))
        go false k = refl

  module _ (same : A → A → Bool) where
    -- each is represented
    pub in_distinct :
        ((x : A) → same x x ≡ true) → ((x y z : A) → same x y ≡ true → same y z ≡ true → same x z ≡ true) →
        (xs : List A) (x : A) → In x xs → (y : A) × In y (distinct same xs) × (same y x ≡ true)
    in_distinct own trans [] x h = absurd h
    in_distinct own trans (z ∷ xs) x (inl p) = (z, inl refl, subst (λ w. same z w ≡ true) (sym p) (own z))
    in_distinct own trans (z ∷ xs) x (inr h) = let r = in_distinct own trans xs x h in go r.0 r.1 r.2 (both (same z r.0))
      where
        go : (y : A) → In y (distinct same xs) → same y x ≡ true → (same z y ≡ true) ⊎ (same z y ≡ false) → (w : A) × In w (distinct same (z ∷ xs)) × (same w x ≡ true)
        go y h e (inl k) = (z, inl refl, trans z y x k e)
        go y h e (inr k) = (y, inr (in_filter (λ v. not (same z v)) (distinct same xs) y h (rw k refl)), e)

    pub distinct_in : (xs : List A) (x : A) → In x (distinct same xs) → In x xs
    distinct_in [] x h = absurd h
    distinct_in (z ∷ xs) x (inl p) = inl p
    distinct_in (z ∷ xs) x (inr h) = inr (distinct_in xs x (filter_in (λ v. not (same z v)) (distinct same xs) x h).0)

module _ {A B : Type 0} (f : A → B) where
  pub in_map : (xs : List A) (x : A) → In x xs → In (f x) (map f xs)
  in_map [] x h = absurd h
  in_map (y ∷ xs) x (inl p) = inl (ap f p)
  in_map (y ∷ xs) x (inr h) = inr (in_map xs x h)

  pub map_in : (xs : List A) (y : B) → In y (map f xs) → (x : A) × In x xs × (y ≡ f x)
  map_in [] y h = absurd h
  map_in (x ∷ xs) y (inl p) = (x, inl refl, p)
  map_in (x ∷ xs) y (inr h) = let r = map_in xs y h in (r.0, inr r.1, r.2)

  pub map_nil : (xs : List A) → map f xs ≡ [] → xs ≡ []
  map_nil [] h = refl
  map_nil (x ∷ xs) h = absurd (cons_nil (f x) (map f xs) h)

module _ {A B : Type 0} (f : A → List B) where
  pub in_flat : (xs : List A) (x : A) (y : B) → In x xs → In y (f x) → In y (flat_map f xs)
  in_flat [] x y h k = absurd h
  in_flat (z ∷ xs) x y (inl p) k = in_left y (f z) (flat_map f xs) (subst (λ w. In y (f w)) p k)
  in_flat (z ∷ xs) x y (inr h) k = in_right y (f z) (flat_map f xs) (in_flat xs x y h k)

  pub flat_in : (xs : List A) (y : B) → In y (flat_map f xs) → (x : A) × In x xs × In y (f x)
  flat_in [] y h = absurd h
  flat_in (x ∷ xs) y h = go (in_either y (f x) (flat_map f xs) h) (flat_in xs y)
    where
      go : In y (f x) ⊎ In y (flat_map f xs) → (In y (flat_map f xs) → (z : A) × In z xs × In y (f z)) → (z : A) × In z (x ∷ xs) × In y (f z)
      go (inl a) ih = (x, inl refl, a)
      go (inr b) ih = let r = ih b in (r.0, inr r.1, r.2)

  pub flat_nil : (xs : List A) (x : A) → flat_map f xs ≡ [] → In x xs → f x ≡ []
  flat_nil [] x e h = absurd h
  flat_nil (z ∷ xs) x e (inl p) = ap f p ∙ append_nil_left (f z) (flat_map f xs) e
  flat_nil (z ∷ xs) x e (inr h) = flat_nil xs x (append_nil_right (f z) (flat_map f xs) e) h

module _ {A B : Type 0} (f : A → Option B) where
  pub chosen_in : (xs : List A) (y : B) → In y (filter_map f xs) → (x : A) × In x xs × (f x ≡ Some y)
  chosen_in [] y h = absurd h
  chosen_in (x ∷ xs) y h = go (f x) refl h (chosen_in xs y)
    where
      go : (o : Option B) → f x ≡ o → In y (cons_option o (filter_map f xs)) → (In y (filter_map f xs) → (z : A) × In z xs × (f z ≡ Some y)) → (z : A) × In z (x ∷ xs) × (f z ≡ Some y)
      go None e h ih = let r = ih h in (r.0, inr r.1, r.2)
      go (Some b) e (inl p) ih = (x, inl refl, e ∙ ap Some (sym p))
      go (Some b) e (inr h) ih = let r = ih h in (r.0, inr r.1, r.2)

pub in_zip : {A B : Type 0} (f : A → B) (xs : List A) (x : A) → In x xs → In (x, f x) (zip xs (map f xs))
in_zip f [] x h = absurd h
in_zip f (y ∷ xs) x (inl p) = inl (λ i. (p i, f (p i)))
in_zip f (y ∷ xs) x (inr h) = inr (in_zip f xs x h)

pub zip_in : {A B : Type 0} (f : A → B) (xs : List A) (e : A × B) → In e (zip xs (map f xs)) → In e.0 xs × (e.1 ≡ f e.0)
zip_in f [] e h = absurd h
zip_in f (y ∷ xs) e (inl p) = (inl (ap (λ w. w.0) p), ap (λ w. w.1) p ∙ ap f (sym (ap (λ w. w.0) p)))
zip_in f (y ∷ xs) e (inr h) = let r = zip_in f xs e h in (inr r.0, r.1)

pub zip_first : {A B : Type 0} (xs : List A) (ys : List B) (x : A) (y : B) → In (x, y) (zip xs ys) → In x xs
zip_first [] ys x y h = absurd h
zip_first (a ∷ xs) [] x y h = absurd h
zip_first (a ∷ xs) (b ∷ ys) x y (inl e) = inl (ap (λ w. w.0) e)
zip_first (a ∷ xs) (b ∷ ys) x y (inr h) = inr (zip_first xs ys x y h)
