-- Lemmas on truth and on lists.
use Rattle.std.proofs.Common.{◌≡◌, ◌⊎◌, Bool, true, false, ◌&&◌, ◌||◌, not, cond, List, [], ◌∷◌, ◌++◌, filter, find, Some, refl, sym, ap, subst, ◌∙◌, IsTrue, true≢false, inl, inr}
use Rattle.std.specs.List.{list_all}
use Rattle.smk_world.specs.Trees.{Each, IsIn}

-- ## Truth

pub and_left : (a b : Bool) → (a && b) ≡ true → a ≡ true
and_left true b h = refl
and_left false b h = absurd (true≢false (sym h))

pub and_right : (a b : Bool) → (a && b) ≡ true → b ≡ true
and_right true b h = h
and_right false b h = absurd (true≢false (sym h))

pub or_left : (a b : Bool) → a ≡ true → (a || b) ≡ true
or_left true b h = refl
or_left false b h = absurd (true≢false (sym h))

pub or_right : (a b : Bool) → b ≡ true → (a || b) ≡ true
or_right true b h = refl
or_right false b h = h

pub not_both : (b : Bool) → not b ≡ true → b ≡ true → ⊥
not_both true h k = true≢false (sym h)
not_both false h k = true≢false (sym k)

pub so_false : (b : Bool) → not b ≡ true → b ≡ false
so_false true h = absurd (true≢false (sym h))
so_false false h = refl

-- either it is so, or it isn't
pub test : (b : Bool) → (b ≡ true) ⊎ (b ≡ false)
test true = inl refl
test false = inr refl

-- ## Lists

pub nil_right : {A : Type 0} (xs : List A) → xs ++ [] ≡ xs
nil_right [] = refl
nil_right (x ∷ xs) = ap (λ ys. x ∷ ys) (nil_right xs)

pub moved : {A : Type 0} (xs : List A) (x : A) (ys : List A) → xs ++ x ∷ ys ≡ (xs ++ x ∷ []) ++ ys
moved [] x ys = refl
moved (z ∷ xs) x ys = ap (λ zs. z ∷ zs) (moved xs x ys)

pub joined : {A : Type 0} (xs ys zs : List A) → (xs ++ ys) ++ zs ≡ xs ++ (ys ++ zs)
joined [] ys zs = refl
joined (x ∷ xs) ys zs = ap (λ ws. x ∷ ws) (joined xs ys zs)

pub head_same : {A : Type 0} (x y : A) (xs ys : List A) → x ∷ xs ≡ y ∷ ys → x ≡ y
head_same x y xs ys h = cc

pub tail_same : {A : Type 0} (x y : A) (xs ys : List A) → x ∷ xs ≡ y ∷ ys → xs ≡ ys
tail_same x y xs ys h = cc

pub not_empty : {A : Type 0} (x : A) (xs : List A) → x ∷ xs ≡ [] → ⊥
not_empty x xs h = cc

pub no_split : {A : Type 0} (front : List A) (e : A) (rest : List A) → [] ≡ front ++ e ∷ rest → ⊥
no_split [] e rest h = cc
no_split (x ∷ front) e rest h = cc

-- what splits a list with one more element behind it, splits the list, or is that element
pub split_last :
    {A : Type 0} (events front rest : List A) (e d : A) → events ++ e ∷ [] ≡ front ++ d ∷ rest →
    ((front ≡ events) × (d ≡ e)) ⊎ ((r : List A) × (events ≡ front ++ d ∷ r))
split_last {A = A} [] [] rest e d h = inl (refl, sym (head_same e d [] rest h))
split_last {A = A} [] (x ∷ front) rest e d h = absurd (no_split front d rest (tail_same e x [] (front ++ d ∷ rest) h))
split_last {A = A} (x ∷ events) [] rest e d h = inr (events, ap (λ y. y ∷ events) (head_same x d (events ++ e ∷ []) rest h))
split_last {A = A} (x ∷ events) (y ∷ front) rest e d h = go (split_last events front rest e d (tail_same x y (events ++ e ∷ []) (front ++ d ∷ rest) h))
  where
    first : x ≡ y
    first = head_same x y (events ++ e ∷ []) (front ++ d ∷ rest) h

    go : ((front ≡ events) × (d ≡ e)) ⊎ ((r : List A) × (events ≡ front ++ d ∷ r)) → ((y ∷ front ≡ x ∷ events) × (d ≡ e)) ⊎ ((r : List A) × (x ∷ events ≡ y ∷ (front ++ d ∷ r)))
    go (inl same) = inl ((λ i. sym first i ∷ same.0 i), same.1)
    go (inr longer) = inr (longer.0, λ i. first i ∷ longer.1 i)

-- ## Each element

-- each passes the test
pub each_true : {A : Type 0} (p : A → Bool) (P : A → Type 0) → ((x : A) → p x ≡ true → P x) → (xs : List A) → list_all p xs ≡ true → Each P xs
each_true p P sure [] h = tt
each_true p P sure (x ∷ xs) h = (sure x (and_left (p x) (list_all p xs) h), each_true p P sure xs (and_right (p x) (list_all p xs) h))

pub at_each : {A : Type 0} (P : A → Type 0) (xs : List A) (x : A) → Each P xs → IsIn xs x → P x
at_each P [] x h is = absurd is
at_each P (y ∷ ys) x h (inl e) = subst P (sym e) h.0
at_each P (y ∷ ys) x h (inr is) = at_each P ys x h.1 is

-- the one element of a list
pub only : {A : Type 0} (x y : A) → IsIn (x ∷ []) y → y ≡ x
only x y (inl e) = e
only x y (inr e) = absurd e

-- ## The first that is found

module _ {A : Type 0} (begins may best : A → Bool) where
  -- those that begin are at most one: the first that may and is the best
  abbrev pub first_alone_by : Bool → A → List A → Bool → Bool
  first_alone_by true x xs later = list_all (λ k. not (begins k)) xs
  first_alone_by false x xs later = not (begins x) && later

  abbrev pub first_alone : List A → Bool
  first_alone [] = true
  first_alone (x ∷ xs) = first_alone_by (may x && best x) x xs (first_alone xs)

  abbrev pub Finds : List A → A → Type 0
  Finds es k = IsTrue (begins k) → find best es ≡ Some k

  none_found : (es xs : List A) → list_all (λ k. not (begins k)) xs ≡ true → Each (Finds es) xs
  none_found es xs h = each_true (λ k. not (begins k)) (Finds es) (λ k t b. absurd (not_both (begins k) t b)) xs h

  -- one more in front, which may not or isn't the best
  later_found : (es fs xs : List A) → find best fs ≡ find best es → Each (Finds es) xs → Each (Finds fs) xs
  later_found es fs [] e h = tt
  later_found es fs (x ∷ xs) e h = ((λ b. e ∙ h.0 b), later_found es fs xs e h.1)

  pub finds_first : (xs more : List A) → first_alone xs ≡ true → Each (Finds (filter may xs ++ more)) xs
  finds_first [] more h = tt
  finds_first (x ∷ xs) more h = go (may x) (best x) refl refl h (λ t. finds_first xs more t)
    where
      skipped : (m b : Bool) → (m && b) ≡ false → best x ≡ b → find best (cond m (x ∷ filter may xs) (filter may xs) ++ more) ≡ find best (filter may xs ++ more)
      skipped true true h e = absurd (true≢false h)
      skipped true false h e = ap (λ c. cond c (Some x) (find best (filter may xs ++ more))) e
      skipped false b h e = refl

      taken : best x ≡ true → find best (x ∷ (filter may xs ++ more)) ≡ Some x
      taken e = ap (λ c. cond c (Some x) (find best (filter may xs ++ more))) e

      kept : (m : Bool) → may x ≡ m → find best (cond m (x ∷ filter may xs) (filter may xs) ++ more) ≡ find best (filter may (x ∷ xs) ++ more)
      kept m e = ap (λ c. find best (cond c (x ∷ filter may xs) (filter may xs) ++ more)) (sym e)

      go :
          (m b : Bool) → may x ≡ m → best x ≡ b → first_alone_by (m && b) x xs (first_alone xs) ≡ true →
          (first_alone xs ≡ true → Each (Finds (filter may xs ++ more)) xs) → Each (Finds (filter may (x ∷ xs) ++ more)) (x ∷ xs)
      go true true e f t deeper = ((λ b. sym (kept true e) ∙ taken f), none_found (filter may (x ∷ xs) ++ more) xs t)
      go true false e f t deeper = (
        (λ b. absurd (not_both (begins x) (and_left (not (begins x)) (first_alone xs) t) b)),
        later_found (filter may xs ++ more) (filter may (x ∷ xs) ++ more) xs (sym (kept true e) ∙ skipped true false refl f) (deeper (and_right (not (begins x)) (first_alone xs) t)),
      )
      go false b e f t deeper = (
        (λ c. absurd (not_both (begins x) (and_left (not (begins x)) (first_alone xs) t) c)),
        later_found (filter may xs ++ more) (filter may (x ∷ xs) ++ more) xs (sym (kept false e) ∙ skipped false b refl f) (deeper (and_right (not (begins x)) (first_alone xs) t)),
      )
