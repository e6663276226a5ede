-- The names of a pattern, and the numbers of its wildcards.
use Rattle.std.proofs.Common.{◌≡◌, ℕ, suc, ◌+◌, ◌<◌, ◌≤◌, ◌⊎◌, ◌==◌, ◌&&◌, inl, inr, ⊎_elim, List, [], ◌∷◌, ◌++◌, length, map, filter, not, cond, Bool, true, false, refl, sym, ap, subst, ◌∙◌, arith, append-nil, append_assoc, length-append, true≢false, bytes_eq}
use Rattle.std.proofs.lemmas.Bool.{eqb-true, eq-eqb}
use Rattle.std.proofs.lemmas.Bool.Decides.{nat_tests}
use Rattle.std.proofs.lemmas.Slice.Eq.{bytes_eq-Decides}
use Rattle.smk_pattern.specs.Shapes.{Text, IsNumbered}
use Rattle.smk_pattern.specs.Shapes.Part.{wild}
use Rattle.smk_pattern.specs.Grammar.{Piece, plain, hole}
use Rattle.smk_pattern.specs.Reading.{place_of, part_in, names_in}
use Rattle.smk_pattern.specs.Written.{with_name}

-- the name is none of these
abbrev pub lacks : List Text → Text → Bool
lacks known name = place_of name known == length known

-- the names with those of the pieces
abbrev pub names_from : List Text → List Piece → List Text
names_from known [] = known
names_from known (p ∷ ps) = names_from (with_name p known) ps

-- ---- places

place_le_by : (t : Bool) (x n : ℕ) → x ≤ n → cond t 0 (suc x) ≤ suc n
place_le_by true x n le = omega arith
place_le_by false x n le = omega (arith, le)

pub place_le : (name : Text) (names : List Text) → place_of name names ≤ length names
place_le name [] = omega arith
place_le name (other ∷ names) = place_le_by (bytes_eq name other) (place_of name names) (length names) (place_le name names)

place_in_by : (t : Bool) (x y n : ℕ) → (y < n → x ≡ y) → cond t 0 (suc y) < suc n → cond t 0 (suc x) ≡ cond t 0 (suc y)
place_in_by true x y n h lt = refl
place_in_by false x y n h lt = ap (λ k. suc k) (h (omega (arith, lt)))

pub place_in : (name : Text) (a b : List Text) → place_of name a < length a → place_of name (a ++ b) ≡ place_of name a
place_in name [] b lt = absurd (omega (arith, lt))
place_in name (other ∷ a) b lt = place_in_by (bytes_eq name other) (place_of name (a ++ b)) (place_of name a) (length a) (place_in name a b) lt

place_out_by : (t : Bool) (x y n z : ℕ) → (y ≡ n → x ≡ n + z) → cond t 0 (suc y) ≡ suc n → cond t 0 (suc x) ≡ suc n + z
place_out_by true x y n z h e = absurd (omega (arith, e))
place_out_by false x y n z h e = let i = h (omega (arith, e)) in omega (arith, i)

pub place_out : (name : Text) (a b : List Text) → place_of name a ≡ length a → place_of name (a ++ b) ≡ length a + place_of name b
place_out name [] b e = omega arith
place_out name (other ∷ a) b e = place_out_by (bytes_eq name other) (place_of name (a ++ b)) (place_of name a) (length a) (place_of name b) (place_out name a b) e

pub place_here : (name : Text) (names : List Text) → place_of name (name ∷ names) ≡ 0
place_here name names = ap (λ t. cond t 0 (suc (place_of name names))) ((bytes_eq-Decides name name).1 refl)

pub found_at : (known : List Text) (name : Text) → lacks known name ≡ false → place_of name known < length known
found_at known name e = grind (arith, nat_tests, place_le name known)

-- ---- names once

pub lacks_more_same : (known : List Text) (name other : Text) → name ≡ other → lacks (known ++ name ∷ []) other ≡ false
lacks_more_same known name other e =
    let l : length (known ++ name ∷ []) ≡ length known + 1 = length-append known (name ∷ []) in
    ⊎_elim
    (λ (lt : place_of other known < length known). let p = place_in other known (name ∷ []) lt in different _ _ (omega (arith, l, p)))
    (λ (ge : length known ≤ place_of other known).
    let p = place_out other known (name ∷ []) (omega (arith, place_le other known)) in
    let q : place_of other (name ∷ []) ≡ 0 = subst (λ (o : Text). place_of o (name ∷ []) ≡ 0) e (place_here name []) in
    different _ _ (omega (arith, l, p, q)))
    (split (place_of other known) (length known))
  where
    split : (m n : ℕ) → (m < n) ⊎ (n ≤ m)
    split m n = grind arith

    different : (m n : ℕ) → m < n → (m == n) ≡ false
    different m n lt = grind (arith, nat_tests)

pub lacks_more_other : (known : List Text) (name other : Text) → bytes_eq other name ≡ false → lacks (known ++ name ∷ []) other ≡ lacks known other
lacks_more_other known name other e =
    let l : length (known ++ name ∷ []) ≡ length known + 1 = length-append known (name ∷ []) in
    ⊎_elim
    (λ (lt : place_of other known < length known). let p = place_in other known (name ∷ []) lt in different _ _ _ _ (omega (arith, l, p)) lt)
    (λ (ge : length known ≤ place_of other known).
    let here : place_of other known ≡ length known = omega (arith, place_le other known) in
    let p = place_out other known (name ∷ []) here in
    let q : place_of other (name ∷ []) ≡ 1 = ap (λ t. cond t 0 1) e in
    equal _ _ _ _ (omega (arith, l, p, q)) here)
    (split (place_of other known) (length known))
  where
    split : (m n : ℕ) → (m < n) ⊎ (n ≤ m)
    split m n = grind arith

    different : (m n j k : ℕ) → m < n → j < k → (m == n) ≡ (j == k)
    different m n j k lt h = grind (arith, nat_tests)

    equal : (m n j k : ℕ) → m ≡ n → j ≡ k → (m == n) ≡ (j == k)
    equal m n j k e f = eq-eqb m n e ∙ sym (eq-eqb j k f)

pub not_same : (name other : Text) → bytes_eq name other ≡ false → bytes_eq other name ≡ false
not_same name other e = by (bytes_eq other name) (λ t. true≢false (sym ((bytes_eq-Decides name other).1 (sym ((bytes_eq-Decides other name).0 t))) ∙ e))
  where
    by : (b : Bool) → (b ≡ true → ⊥) → b ≡ false
    by true h = absurd (h refl)
    by false h = refl

lacks_more : (known : List Text) (name other : Text) → lacks (known ++ name ∷ []) other ≡ not (bytes_eq name other) && lacks known other
lacks_more known name other = by (bytes_eq name other) refl
  where
    by : (b : Bool) → bytes_eq name other ≡ b → lacks (known ++ name ∷ []) other ≡ not b && lacks known other
    by true e = lacks_more_same known name other ((bytes_eq-Decides name other).0 e)
    by false e = lacks_more_other known name other (not_same name other e)

lacks_same : (known : List Text) (name other : Text) → lacks known name ≡ false → lacks known other ≡ not (bytes_eq name other) && lacks known other
lacks_same known name other h = by (bytes_eq name other) refl
  where
    by : (b : Bool) → bytes_eq name other ≡ b → lacks known other ≡ not b && lacks known other
    by true e = subst (λ (o : Text). lacks known o ≡ false) ((bytes_eq-Decides name other).0 e) h
    by false e = refl

filter_twice_by : (p q r : Text → Bool) (x : Text) (xs : List Text) (t u : Bool) → r x ≡ t && u → p x ≡ u → filter p (filter q xs) ≡ filter r xs →
    filter p (cond t (x ∷ filter q xs) (filter q xs)) ≡ cond (r x) (x ∷ filter r xs) (filter r xs)
filter_twice_by p q r x xs true u e f h =
    ap (λ b. cond b (x ∷ filter p (filter q xs)) (filter p (filter q xs))) (f ∙ sym e) ∙ ap (λ ys. cond (r x) (x ∷ ys) ys) h
filter_twice_by p q r x xs false u e f h = h ∙ ap (λ b. cond b (x ∷ filter r xs) (filter r xs)) (sym e)

filter_twice : (p q r : Text → Bool) → ((x : Text) → r x ≡ q x && p x) → (xs : List Text) → filter p (filter q xs) ≡ filter r xs
filter_twice p q r h [] = refl
filter_twice p q r h (x ∷ xs) = filter_twice_by p q r x xs (q x) (p x) (h x) refl (filter_twice p q r h xs)

filter_all : (p : Text → Bool) → ((x : Text) → p x ≡ true) → (xs : List Text) → filter p xs ≡ xs
filter_all p h [] = refl
filter_all p h (x ∷ xs) = ap (λ b. cond b (x ∷ filter p xs) (filter p xs)) (h x) ∙ ap (λ ys. x ∷ ys) (filter_all p h xs)

pub names_from-is : (known : List Text) (ps : List Piece) → names_from known ps ≡ known ++ filter (lacks known) (names_in ps)
names_from-is known [] = sym (append-nil known)
names_from-is known (plain t ∷ ps) = names_from-is known ps
names_from-is known (hole name limit ∷ ps) = by (lacks known name) refl (names_from-is (known ++ name ∷ []) ps) (names_from-is known ps)
  where
    by : (b : Bool) → lacks known name ≡ b →
        names_from (known ++ name ∷ []) ps ≡ (known ++ name ∷ []) ++ filter (lacks (known ++ name ∷ [])) (names_in ps) →
        names_from known ps ≡ known ++ filter (lacks known) (names_in ps) →
        names_from (cond b (known ++ name ∷ []) known) ps
        ≡ known ++ cond b (name ∷ filter (lacks known) (filter (λ other. not (bytes_eq name other)) (names_in ps))) (filter (lacks known) (filter (λ other. not (bytes_eq name other)) (names_in ps)))
    by true e more same =
        more ∙ append_assoc known (name ∷ []) (filter (lacks (known ++ name ∷ [])) (names_in ps))
        ∙ ap (λ xs. known ++ name ∷ xs)
        (sym (filter_twice (lacks known) (λ other. not (bytes_eq name other)) (lacks (known ++ name ∷ [])) (lacks_more known name) (names_in ps)))
    by false e more same =
        same ∙ ap (λ xs. known ++ xs)
        (sym (filter_twice (lacks known) (λ other. not (bytes_eq name other)) (lacks known) (λ other. lacks_same known name other e) (names_in ps)))

pub names_from_none : (ps : List Piece) → names_from [] ps ≡ names_in ps
names_from_none ps = names_from-is [] ps ∙ filter_all (lacks []) (λ x. refl) (names_in ps)

pub numbered_from : (known : List Text) (ps : List Piece) → IsNumbered (map (part_in (names_from known ps)) ps) (length known) (length (names_from known ps))
numbered_from known [] = refl
numbered_from known (plain t ∷ ps) = numbered_from known ps
numbered_from known (hole name limit ∷ ps) = by (lacks known name) refl (numbered_from (known ++ name ∷ []) ps) (numbered_from known ps)
  where
    by : (b : Bool) → lacks known name ≡ b →
        IsNumbered (map (part_in (names_from (known ++ name ∷ []) ps)) ps) (length (known ++ name ∷ [])) (length (names_from (known ++ name ∷ []) ps)) →
        IsNumbered (map (part_in (names_from known ps)) ps) (length known) (length (names_from known ps)) →
        IsNumbered (wild (place_of name (names_from (cond b (known ++ name ∷ []) known) ps)) ∷ map (part_in (names_from (cond b (known ++ name ∷ []) known) ps)) ps)
        (length known) (length (names_from (cond b (known ++ name ∷ []) known) ps))
    by true e more same =
        let more_names = filter (lacks (known ++ name ∷ [])) (names_in ps) in
        let all : names_from (known ++ name ∷ []) ps ≡ known ++ (name ∷ more_names) = names_from-is (known ++ name ∷ []) ps ∙ append_assoc known (name ∷ []) more_names in
        let place : place_of name (names_from (known ++ name ∷ []) ps) ≡ length known =
        ap (place_of name) all ∙ place_out name known (name ∷ more_names) (eqb-true (place_of name known) (length known) e) ∙ ap (λ k. length known + k) (place_here name more_names) ∙ omega arith in
        inr (place, omega (arith, ap length all, length-append known (name ∷ more_names)), subst (λ k. IsNumbered (map (part_in (names_from (known ++ name ∷ []) ps)) ps) k (length (names_from (known ++ name ∷ []) ps))) (length-append known (name ∷ [])) more)
    by false e more same =
        let more_names = filter (lacks known) (names_in ps) in
        let lt = found_at known name e in
        let place : place_of name (names_from known ps) ≡ place_of name known = ap (place_of name) (names_from-is known ps) ∙ place_in name known more_names lt in
        inl (omega (arith, place, lt), same)

-- the wildcards of a pattern have numbers in the order in which they first stand
pub numbered_all : (ps : List Piece) → IsNumbered (map (part_in (names_in ps)) ps) 0 (length (names_in ps))
numbered_all ps = subst (λ (names : List Text). IsNumbered (map (part_in names) ps) 0 (length names)) (names_from_none ps) (numbered_from [] ps)
