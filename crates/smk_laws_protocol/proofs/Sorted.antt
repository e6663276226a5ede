-- Rising lists of names: two with the same names are equal, and a part of one rises.
use Rattle.std.proofs.Common.{◌≡◌, Bool, true, false, List, [], ◌∷◌, cond, refl, sym, ap, subst, arith, ◌∙◌}
use Rattle.std.proofs.lemmas.Cmp.{nat_list_cmp_total, tied_itself}
use Rattle.std.proofs.lemmas.Map.Text.{is_eq-slice_cmp}
use Rattle.std.specs.List.{AllByRecursion}
use Rattle.std.specs.List.Sorted.{IsStrictlySortedBy}
use Rattle.std.specs.Cmp.Lexicographic.{slice_cmp}
use Rattle.std.specs.Ordering.{nat_cmp, is_eq}
use Rattle.std.specs.declared.cmp.Ordering.{Ordering}
use Rattle.std.specs.declared.cmp.Ordering.TheVariants.{Less, Equal, Greater}
use Rattle.std.specs.Prelude.{bytes_eq, filter, ◌&&◌, ◌||◌}
use Rattle.smk_base.proofs.Places.{same_place, place_itself, same_flipped}
use Rattle.smk_world.specs.World.{IsRising, add_names, add_name, name_placed}
use Rattle.smk_world.specs.Trees.{Path, among}

pub swap_eq : (a b : Path) → bytes_eq a b ≡ bytes_eq b a
swap_eq a b = same_flipped a b

abbrev Above : Path → List Path → Type 0
Above k ps = AllByRecursion (λ y. slice_cmp nat_cmp k y ≡ Less) ps

less_is_not_equal : (o : Ordering) → o ≡ Equal → o ≡ Less → ⊥
less_is_not_equal o h k = cc

less_itself : (p : Path) → slice_cmp nat_cmp p p ≡ Less → ⊥
less_itself p h = less_is_not_equal (slice_cmp nat_cmp p p) (tied_itself nat_list_cmp_total p) h

true_false : {A : Type 0} (b : Bool) → b ≡ true → b ≡ false → A
true_false b h k = absurd (no b h k)
  where
    no : (b : Bool) → b ≡ true → b ≡ false → ⊥
    no b h k = grind arith

-- what is named among places above k is above it
above_among : (k q : Path) (xs : List Path) → Above k xs → among xs q ≡ true → slice_cmp nat_cmp k q ≡ Less
above_among k q [] all h = true_false false h refl
above_among k q (x ∷ xs) all h = go (bytes_eq q x) refl h (above_among k q xs all.1)
  where
    go : (b : Bool) → bytes_eq q x ≡ b → (b || among xs q) ≡ true → (among xs q ≡ true → slice_cmp nat_cmp k q ≡ Less) → slice_cmp nat_cmp k q ≡ Less
    go true e h ih = subst (λ z. slice_cmp nat_cmp k z ≡ Less) (sym (same_place q x e)) all.0
    go false e h ih = ih h

not_itself : (k : Path) (xs : List Path) → Above k xs → among xs k ≡ false
not_itself k xs all = go (among xs k) refl
  where
    go : (b : Bool) → among xs k ≡ b → b ≡ false
    go true e = absurd (less_itself k (above_among k k xs all e))
    go false e = refl

module _ (x y : Path) (xs ys : List Path) (a : Above x xs) (c : Above y ys) (same : (q : Path) → among (x ∷ xs) q ≡ among (y ∷ ys) q) where
  at_head : (z : Path) (zs : List Path) → among (z ∷ zs) z ≡ true
  at_head z zs = ap (λ b. b || among zs z) (place_itself z)

  same_head : (b : Bool) → bytes_eq x y ≡ b → x ≡ y
  same_head true e = same_place x y e
  same_head false e =
      let below_x = above_among y x ys c (sym (ap (λ b. b || among ys x) e) ∙ (sym (same x) ∙ at_head x xs)) in
      let below_y = above_among x y xs a (sym (ap (λ b. b || among xs y) (sym (same_flipped x y) ∙ e)) ∙ (same y ∙ at_head y ys)) in
      absurd (less_itself y (nat_list_cmp_total.trans y x y below_x below_y))

  same_tail : x ≡ y → (q : Path) (b : Bool) → bytes_eq q x ≡ b → among xs q ≡ among ys q
  same_tail head q true e =
      let is_x = same_place q x e in
      subst (λ z. among xs z ≡ false) (sym is_x) (not_itself x xs a) ∙ sym (subst (λ z. among ys z ≡ false) (sym (is_x ∙ head)) (not_itself y ys c))
  same_tail head q false e =
      sym (ap (λ b. b || among xs q) e) ∙ (same q ∙ ap (λ b. b || among ys q) (subst (λ z. bytes_eq q z ≡ false) head e))

pub rising_same : (xs ys : List Path) → IsRising xs → IsRising ys → ((r : Path) → among xs r ≡ among ys r) → xs ≡ ys
unfolding IsStrictlySortedBy
rising_same [] [] h k same = refl
rising_same [] (y ∷ ys) h k same = true_false false (same y ∙ ap (λ b. b || among ys y) (place_itself y)) refl
rising_same (x ∷ xs) [] h k same = true_false false (sym (same x) ∙ ap (λ b. b || among xs x) (place_itself x)) refl
rising_same (x ∷ xs) (y ∷ ys) h k same =
    let head = same_head x y xs ys h.0 k.0 same (bytes_eq x y) refl in
    let rest = rising_same xs ys h.1 k.1 (λ q. same_tail x y xs ys h.0 k.0 same head q (bytes_eq q x) refl) in
    λ i. head i ∷ rest i

filter_above : (t : Path → Bool) (k : Path) (xs : List Path) → Above k xs → Above k (filter t xs)
filter_above t k [] all = tt
filter_above t k (x ∷ xs) all = go (t x) (filter_above t k xs all.1)
  where
    go : (b : Bool) → Above k (filter t xs) → Above k (cond b (x ∷ filter t xs) (filter t xs))
    go true ih = (all.0, ih)
    go false ih = ih

pub filter_rises : (t : Path → Bool) (xs : List Path) → IsRising xs → IsRising (filter t xs)
unfolding IsStrictlySortedBy
filter_rises t [] h = tt
filter_rises t (x ∷ xs) h = go (t x) (filter_rises t xs h.1)
  where
    go : (b : Bool) → IsRising (filter t xs) → IsRising (cond b (x ∷ filter t xs) (filter t xs))
    go true ih = (filter_above t x xs h.0, ih)
    go false ih = ih

pub among_filter : (t : Path → Bool) (xs : List Path) (q : Path) → among (filter t xs) q ≡ (among xs q && t q)
among_filter t [] q = refl
among_filter t (x ∷ xs) q = go (t x) refl (bytes_eq q x) refl (among_filter t xs q)
  where
    go : (b : Bool) → t x ≡ b → (c : Bool) → bytes_eq q x ≡ c → among (filter t xs) q ≡ (among xs q && t q) → among (cond b (x ∷ filter t xs) (filter t xs)) q ≡ ((c || among xs q) && t q)
    go true e true f ih = ap (λ v. v || among (filter t xs) q) f ∙ sym (subst (λ z. t z ≡ true) (sym (same_place q x f)) e)
    go true e false f ih = ap (λ v. v || among (filter t xs) q) f ∙ ih
    go false e true f ih =
        let no = subst (λ z. t z ≡ false) (sym (same_place q x f)) e in
        ih ∙ ap (λ v. among xs q && v) no ∙ never (among xs q) ∙ sym no
      where
        never : (a : Bool) → (a && false) ≡ false
        never true = refl
        never false = refl
    go false e false f ih = ih

among_one : (q : Path) (ps : List Path) (r : Path) → among (add_name q ps) r ≡ (bytes_eq r q || among ps r)
among_one q [] r = refl
among_one q (p ∷ ps) r = placed (slice_cmp nat_cmp q p) refl (among_one q ps r)
  where
    twice : (a x : Bool) → (a || x) ≡ (a || (a || x))
    twice true x = refl
    twice false x = refl

    swap : (a b x : Bool) → (a || (b || x)) ≡ (b || (a || x))
    swap a b x = grind arith

    placed : (o : Ordering) → slice_cmp nat_cmp q p ≡ o → among (add_name q ps) r ≡ (bytes_eq r q || among ps r) → among (name_placed o q p ps (add_name q ps)) r ≡ (bytes_eq r q || (bytes_eq r p || among ps r))
    placed Less e ih = refl
    placed Equal e ih =
        let same : q ≡ p = same_place q p (sym (is_eq-slice_cmp q p) ∙ ap is_eq e) in
        subst (λ z. (bytes_eq r p || among ps r) ≡ (bytes_eq r z || (bytes_eq r p || among ps r))) (sym same) (twice (bytes_eq r p) (among ps r))
    placed Greater e ih = ap (λ v. bytes_eq r p || v) ih ∙ swap (bytes_eq r p) (bytes_eq r q) (among ps r)

pub among_add : (qs ps : List Path) (r : Path) → among (add_names qs ps) r ≡ (among qs r || among ps r)
among_add [] ps r = refl
among_add (q ∷ qs) ps r = among_one q (add_names qs ps) r ∙ ap (λ v. bytes_eq r q || v) (among_add qs ps r) ∙ group (bytes_eq r q) (among qs r) (among ps r)
  where
    group : (a b c : Bool) → (a || (b || c)) ≡ ((a || b) || c)
    group true b c = refl
    group false b c = refl
