-- Lists of which each has a property, and lists from which one is taken out.
use Rattle.std.proofs.Common.{◌≡◌, ◌⊎◌, Bool, true, false, List, [], ◌∷◌, ◌++◌, refl, sym, subst, inl, inr, arith, Option, Some, None, ap}
use Rattle.std.specs.Prelude.{bytes_eq, IsTrue, filter, if◌then◌else◌, ◌||◌, ◌&&◌}
use Rattle.std.specs.List.{list_any}
use Rattle.smk_world.specs.Trees.{Path, among, IsIn, Each}
use Rattle.smk_base.proofs.Places.{same_place}

pub each_in : {A : Type 0} (P : A → Type 0) (xs : List A) (x : A) → Each P xs → IsIn xs x → P x
each_in P [] x h i = absurd i
each_in P (y ∷ xs) x h (inl e) = subst P (sym e) h.0
each_in P (y ∷ xs) x h (inr i) = each_in P xs x h.1 i

-- from each that is in it
pub each_of : {A : Type 0} (P : A → Type 0) (xs : List A) → ((x : A) → IsIn xs x → P x) → Each P xs
each_of P [] h = tt
each_of P (x ∷ xs) h = (h x (inl refl), each_of P xs (λ y i. h y (inr i)))

pub each_on : {A : Type 0} (P Q : A → Type 0) → ((x : A) → P x → Q x) → (xs : List A) → Each P xs → Each Q xs
each_on P Q on [] h = tt
each_on P Q on (x ∷ xs) h = (on x h.0, each_on P Q on xs h.1)

-- ---- js ++ j ∷ ks and js ++ ks

pub in_split : {A : Type 0} (js ks : List A) (j k : A) → IsIn (js ++ j ∷ ks) k → (k ≡ j) ⊎ IsIn (js ++ ks) k
in_split [] ks j k (inl e) = inl e
in_split [] ks j k (inr i) = inr i
in_split (x ∷ js) ks j k (inl e) = inr (inl e)
in_split (x ∷ js) ks j k (inr i) = turn (in_split js ks j k i)
  where
    turn : (k ≡ j) ⊎ IsIn (js ++ ks) k → (k ≡ j) ⊎ IsIn (x ∷ js ++ ks) k
    turn (inl e) = inl e
    turn (inr i) = inr (inr i)

pub in_rest : {A : Type 0} (js ks : List A) (j k : A) → IsIn (js ++ ks) k → IsIn (js ++ j ∷ ks) k
in_rest [] ks j k i = inr i
in_rest (x ∷ js) ks j k (inl e) = inl e
in_rest (x ∷ js) ks j k (inr i) = inr (in_rest js ks j k i)

pub in_here : {A : Type 0} (js ks : List A) (j : A) → IsIn (js ++ j ∷ ks) j
in_here [] ks j = inl refl
in_here (x ∷ js) ks j = inr (in_here js ks j)

filter_step : {A : Type 0} (t : A → Bool) (y x : A) (xs ys : List A) → (IsIn ys x → IsIn xs x × (t x ≡ true)) → (b : Bool) → t y ≡ b → IsIn (if b then y ∷ ys else ys) x → IsIn (y ∷ xs) x × (t x ≡ true)
filter_step t y x xs ys ih true e (inl k) = (inl k, subst (λ z. t z ≡ true) (sym k) e)
filter_step t y x xs ys ih true e (inr k) = let r = ih k in (inr r.0, r.1)
filter_step t y x xs ys ih false e k = let r = ih k in (inr r.0, r.1)

pub in_filter : {A : Type 0} (t : A → Bool) (xs : List A) (x : A) → IsIn (filter t xs) x → IsIn xs x × (t x ≡ true)
in_filter t [] x i = absurd i
in_filter t (y ∷ xs) x i = filter_step t y x xs (filter t xs) (in_filter t xs x) (t y) refl i

filter_more : {A : Type 0} (y x : A) (ys : List A) → IsIn ys x → (b : Bool) → IsIn (if b then y ∷ ys else ys) x
filter_more y x ys i true = inr i
filter_more y x ys i false = i

pub filter_in : {A : Type 0} (t : A → Bool) (xs : List A) (x : A) → IsIn xs x → t x ≡ true → IsIn (filter t xs) x
filter_in t [] x i h = absurd i
filter_in t (y ∷ xs) x (inl e) h = subst (λ (b : Bool). IsIn (if b then y ∷ filter t xs else filter t xs) x) (sym (subst (λ z. t z ≡ true) e h)) (inl e)
filter_in t (y ∷ xs) x (inr i) h = filter_more y x (filter t xs) (filter_in t xs x i h) (t y)

-- ---- tests of lists

or_left : (a b : Bool) → (a || b) ≡ false → a ≡ false
or_left a b h = grind arith

or_right : (a b : Bool) → (a || b) ≡ false → b ≡ false
or_right a b h = grind arith

pub none_of : {A : Type 0} (t : A → Bool) (xs : List A) (x : A) → list_any t xs ≡ false → IsIn xs x → t x ≡ false
none_of t [] x h i = absurd i
none_of t (y ∷ xs) x h (inl e) = subst (λ z. t z ≡ false) (sym e) (or_left (t y) (list_any t xs) h)
none_of t (y ∷ xs) x h (inr i) = none_of t xs x (or_right (t y) (list_any t xs) h) i

pub none_by : {A : Type 0} (t : A → Bool) (xs : List A) → ((x : A) → IsIn xs x → t x ≡ false) → list_any t xs ≡ false
none_by t [] h = refl
none_by t (x ∷ xs) h = let a = h x (inl refl) in let b = none_by t xs (λ y i. h y (inr i)) in grind arith

some_step : {A : Type 0} (t : A → Bool) (x : A) (xs : List A) (r : Bool) → (r ≡ true → (y : A) × IsIn xs y × (t y ≡ true)) → (b : Bool) → t x ≡ b → (b || r) ≡ true → (y : A) × IsIn (x ∷ xs) y × (t y ≡ true)
some_step t x xs r ih true e k = (x, inl refl, e)
some_step t x xs r ih false e k = let f = ih k in (f.0, inr f.1, f.2)

pub some_of : {A : Type 0} (t : A → Bool) (xs : List A) → list_any t xs ≡ true → (x : A) × IsIn xs x × (t x ≡ true)
some_of t [] h = absurd (no h)
  where
    no : false ≡ true → ⊥
    no h = grind arith
some_of t (x ∷ xs) h = some_step t x xs (list_any t xs) (some_of t xs) (t x) refl h

pub any_by : {A : Type 0} (t : A → Bool) (xs : List A) (x : A) → IsIn xs x → t x ≡ true → list_any t xs ≡ true
any_by t [] x i h = absurd i
any_by t (y ∷ xs) x (inl e) h = let k = subst (λ z. t z ≡ true) e h in grind arith
any_by t (y ∷ xs) x (inr i) h = let k = any_by t xs x i h in grind arith

pub by_test : {A : Type 0} (b : Bool) → (b ≡ true → A) → (b ≡ false → A) → A
by_test true f g = f refl
by_test false f g = g refl

pub clash : {A : Type 0} (b : Bool) → b ≡ true → b ≡ false → A
clash b h k = absurd (no b h k)
  where
    no : (b : Bool) → b ≡ true → b ≡ false → ⊥
    no b h k = grind arith

pub none_some : {A B : Type 0} {n : A} (o : Option A) → o ≡ None → o ≡ Some n → B
none_some o h k = absurd (no o h k)
  where
    no : {A : Type 0} {n : A} (o : Option A) → o ≡ None → o ≡ Some n → ⊥
    no o h k = grind arith

pub some_same : {A : Type 0} {n m : A} → Some n ≡ Some m → n ≡ m
some_same h = cc

pub in_among : (ps : List Path) (p : Path) → IsTrue (among ps p) → IsIn ps p
in_among [] p h = absurd (no h)
  where
    no : false ≡ true → ⊥
    no h = grind arith
in_among (q ∷ ps) p h = go (bytes_eq p q) refl h (in_among ps p)
  where
    go : (b : Bool) → bytes_eq p q ≡ b → (b || among ps p) ≡ true → (IsTrue (among ps p) → IsIn ps p) → IsIn (q ∷ ps) p
    go true e h ih = inl (same_place p q e)
    go false e h ih = inr (ih h)

pub pick_none : {A : Type 0} (a b : Bool) (x y : A) → b ≡ false → (if a && b then x else y) ≡ y
pick_none true b x y h = ap (λ (v : Bool). if v then x else y) h
pick_none false b x y h = refl
