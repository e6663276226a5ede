-- Lists: what holds of each element, and what passes a test.
use Rattle.std.proofs.Common.{◌≡◌, ◌<◌, ◌+◌, ℕ, Bool, true, false, cond, List, [], ◌∷◌, ◌++◌, map, Option, Some, None, refl, sym, ap, ◌∙◌, length, get_or, drop, take, append_assoc}
use Rattle.std.specs.Prelude.{if◌then◌else◌}
use Rattle.std.specs.List.{filter, flat_map}
use Rattle.std.proofs.lemmas.List.{map-append, drop_more, take_more, append-nil}
use Rattle.std.proofs.lemmas.List.Concat.{flat_map-append}
use denote.Ref.{Bor}
use Rattle.smk_world.specs.Trees.{Each, first}
use Rattle.smk_plan_table.specs.Parts.{shown}

module _ {A : Type 0} where
  pub each_join : (P : A → Type 0) (xs ys : List A) → Each P xs → Each P ys → Each P (xs ++ ys)
  each_join P [] ys h k = k
  each_join P (x ∷ xs) ys h k = (h.0, each_join P xs ys h.1 k)

  pub each_front : (P : A → Type 0) (xs ys : List A) → Each P (xs ++ ys) → Each P xs
  each_front P [] ys h = tt
  each_front P (x ∷ xs) ys h = (h.0, each_front P xs ys h.1)

  pub each_back : (P : A → Type 0) (xs ys : List A) → Each P (xs ++ ys) → Each P ys
  each_back P [] ys h = h
  each_back P (x ∷ xs) ys h = each_back P xs ys h.1

  -- tests that tell the same of each let the same pass
  pub filter_same : (f g : A → Bool) (xs : List A) → Each (λ x. f x ≡ g x) xs → filter f xs ≡ filter g xs
  filter_same f g [] h = refl
  filter_same f g (x ∷ xs) h =
      ap (λ b. cond b (x ∷ filter f xs) (filter f xs)) h.0 ∙ ap (λ ys. cond (g x) (x ∷ ys) ys) (filter_same f g xs h.1)

  -- what follows the first
  pub behind : (x : A) (xs : List A) → Some x ≡ first xs → (rest : List A) × (xs ≡ x ∷ rest)
  behind x [] e = absurd cc
  behind x (y ∷ xs) e = (xs, sym (ap (λ z. z ∷ xs) (inner e)))
    where
      inner : Some x ≡ Some y → x ≡ y
      inner e = cc

  pub none_there : (xs : List A) → None ≡ first xs → xs ≡ []
  none_there [] e = refl
  none_there (x ∷ xs) e = absurd cc

one_tested : {A B : Type 0} (f : A → B) (x : A) (xs : List A) (b : Bool) → (if b then f x ∷ [] else []) ++ map f xs ≡ map f (cond b (x ∷ xs) xs)
one_tested f x xs true = refl
one_tested f x xs false = refl

module _ {A B : Type 0} where
  pub each_flat : (P : A → Type 0) (Q : B → Type 0) (f : A → List B) → ((x : A) → P x → Each Q (f x)) → (xs : List A) → Each P xs → Each Q (flat_map f xs)
  each_flat P Q f h [] k = tt
  each_flat P Q f h (x ∷ xs) k = each_join Q (f x) (flat_map f xs) (h x k.0) (each_flat P Q f h xs k.1)

  -- what passes the test, turned one by one
  pub tested : (test : A → Bool) (f : A → B) (xs : List A) → flat_map (λ x. if test x then f x ∷ [] else []) xs ≡ map f (filter test xs)
  tested test f [] = refl
  tested test f (x ∷ xs) = ap (λ ys. (if test x then f x ∷ [] else []) ++ ys) (tested test f xs) ∙ one_tested f x (filter test xs) (test x)

module _ {A B C : Type 0} where
  pub map_flat : (f : B → C) (g : A → List B) (k : A → List C) → ((x : A) → map f (g x) ≡ k x) → (xs : List A) → map f (flat_map g xs) ≡ flat_map k xs
  map_flat f g k h [] = refl
  map_flat f g k h (x ∷ xs) =
      map-append f (g x) (flat_map g xs) ∙ ap (λ ys. ys ++ map f (flat_map g xs)) (h x) ∙ ap (λ ys. k x ++ ys) (map_flat f g k h xs)

-- ## The first of what lists have, one list after another

module _ {A : Type 0} where
  pub first_here : (x : A) (xs ys : List A) → Some x ≡ first xs → Some x ≡ first (xs ++ ys)
  first_here x [] ys e = absurd cc
  first_here x (y ∷ xs) ys e = e

  pub first_later : (xs ys : List A) → None ≡ first xs → first ys ≡ first (xs ++ ys)
  first_later [] ys e = refl
  first_later (x ∷ xs) ys e = absurd cc

module _ {A B : Type 0} (parts : A → List B) (xs : List A) (i : ℕ) (x : A) (lt : i < length xs) (is : x ≡ get_or xs i x) (whole : Option B) (rest : whole ≡ first (flat_map parts (drop i xs))) where
  split : drop i xs ≡ x ∷ drop (i + 1) xs
  split = drop_more xs i x lt ∙ ap (λ y. y ∷ drop (i + 1) xs) (sym is)

  pub found_here : (b : B) → Some b ≡ first (parts x) → Some b ≡ whole
  found_here b e = first_here b (parts x) (flat_map parts (drop (i + 1) xs)) e ∙ sym (rest ∙ ap (λ ys. first (flat_map parts ys)) split)

  pub not_here : None ≡ first (parts x) → whole ≡ first (flat_map parts (drop (i + 1) xs))
  not_here e = rest ∙ ap (λ ys. first (flat_map parts ys)) split ∙ sym (first_later (parts x) (flat_map parts (drop (i + 1) xs)) e)

-- the same of what is lent
module _ {A B : Type 0} (parts : A → List B) (xs : List (Bor A)) (i : ℕ) (x : Bor A) (lt : i < length xs) (is : x ≡ get_or xs i x) (whole : Option B) (rest : whole ≡ first (flat_map parts (shown (drop i xs)))) where
  split_lent : drop i xs ≡ x ∷ drop (i + 1) xs
  split_lent = drop_more xs i x lt ∙ ap (λ y. y ∷ drop (i + 1) xs) (sym is)

  pub found_lent : (b : B) → Some b ≡ first (parts x.now) → Some b ≡ whole
  found_lent b e = first_here b (parts x.now) (flat_map parts (shown (drop (i + 1) xs))) e ∙ sym (rest ∙ ap (λ ys. first (flat_map parts (shown ys))) split_lent)

  pub not_lent : None ≡ first (parts x.now) → whole ≡ first (flat_map parts (shown (drop (i + 1) xs)))
  not_lent e = rest ∙ ap (λ ys. first (flat_map parts (shown ys))) split_lent ∙ sym (first_later (parts x.now) (flat_map parts (shown (drop (i + 1) xs))) e)

-- ## What grows by one list after another

module _ {A B : Type 0} (parts : A → List B) where
  pub grown : (xs : List A) (i : ℕ) (x : A) → i < length xs → x ≡ get_or xs i x → (begun old new added : List B) → old ≡ begun ++ flat_map parts (take i xs) →
      new ≡ old ++ added → added ≡ parts x → new ≡ begun ++ flat_map parts (take (i + 1) xs)
  grown xs i x lt is begun old new added o n a =
      n ∙ ap (λ ys. ys ++ added) o ∙ ap (λ ys. (begun ++ flat_map parts (take i xs)) ++ ys) a
      ∙ append_assoc begun (flat_map parts (take i xs)) (parts x)
      ∙ ap (λ ys. begun ++ ys)
      (sym (ap (flat_map parts) (take_more xs i x lt ∙ ap (λ y. take i xs ++ y ∷ []) (sym is))
      ∙ flat_map-append parts (take i xs) (x ∷ []) ∙ ap (λ ys. flat_map parts (take i xs) ++ ys) (append-nil (parts x))))

  -- the same of what is lent
  pub grown_lent : (xs : List (Bor A)) (i : ℕ) (x : Bor A) → i < length xs → x ≡ get_or xs i x → (old new added : List B) → old ≡ flat_map parts (shown (take i xs)) →
      new ≡ old ++ added → added ≡ parts x.now → new ≡ flat_map parts (shown (take (i + 1) xs))
  grown_lent xs i x lt is old new added o n a =
      n ∙ ap (λ ys. ys ++ added) o ∙ ap (λ ys. flat_map parts (shown (take i xs)) ++ ys) a
      ∙ sym (ap (λ ys. flat_map parts (shown ys)) (take_more xs i x lt ∙ ap (λ y. take i xs ++ y ∷ []) (sym is))
      ∙ ap (flat_map parts) (map-append (λ (r : Bor A). r.now) (take i xs) (x ∷ []))
      ∙ flat_map-append parts (shown (take i xs)) (x.now ∷ []) ∙ ap (λ ys. flat_map parts (shown (take i xs)) ++ ys) (append-nil (parts x.now)))
