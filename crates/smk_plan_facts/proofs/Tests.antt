-- Lists, tests and look-ups.
use Rattle.std.proofs.Common.{◌≡◌, Bool, true, false, cond, ◌||◌, List, [], ◌∷◌, ◌++◌, map, Option, Some, None, refl, sym, ap, subst, ◌∙◌, bytes_eq}
use Rattle.std.specs.Prelude.{if◌then◌else◌, reverse, option_map}
use Rattle.std.specs.List.{list_any, list_all, find, flat_map, zip}
use Rattle.std.specs.Option.{option_or}
use Rattle.std.proofs.lemmas.List.{reverse-append, map-append}
use Rattle.std.proofs.lemmas.List.Folds.{find-append}
pub use Rattle.std.proofs.lemmas.Option.{same_Some as some_same, none-some as none_some}
use Rattle.smk_base.proofs.Places.{and_first, and_second, same_place, same_flipped}
use Rattle.smk_base.proofs.Under.{never_both}
use Rattle.smk_world.specs.declared.recipe.Out.{Out}
use Rattle.smk_world.specs.declared.recipe.OutItem.{OutItem}
use Rattle.smk_world.specs.Trees.{Path, Each, among}

-- ## Maps

pub map_each : {A B : Type 0} (f g : A → B) (xs : List A) → Each (λ x. f x ≡ g x) xs → map f xs ≡ map g xs
map_each f g [] h = refl
map_each f g (x ∷ xs) h = λ i. h.0 i ∷ map_each f g xs h.1 i

pub zip_map : {A B : Type 0} (f : A → B) (xs : List A) → map (λ x. (x, f x)) xs ≡ zip xs (map f xs)
zip_map f [] = refl
zip_map f (x ∷ xs) = ap (λ ys. (x, f x) ∷ ys) (zip_map f xs)

-- ## P of each

pub each_of : {A : Type 0} (P Q : A → Type 0) → ((x : A) → P x → Q x) → (xs : List A) → Each P xs → Each Q xs
each_of P Q more [] h = tt
each_of P Q more (x ∷ xs) h = (more x h.0, each_of P Q more xs h.1)

pub each_two : {A : Type 0} (P Q R : A → Type 0) → ((x : A) → P x → Q x → R x) → (xs : List A) → Each P xs → Each Q xs → Each R xs
each_two P Q R more [] h k = tt
each_two P Q R more (x ∷ xs) h k = (more x h.0 k.0, each_two P Q R more xs h.1 k.1)

pub each_tested : {A : Type 0} (test : A → Bool) (xs : List A) → list_all test xs ≡ true → Each (λ x. test x ≡ true) xs
each_tested test [] h = tt
each_tested test (x ∷ xs) h = (and_first (test x) (list_all test xs) h, each_tested test xs (and_second (test x) (list_all test xs) h))

pub each_map : {A B : Type 0} (P : B → Type 0) (f : A → B) (xs : List A) → Each (λ x. P (f x)) xs → Each P (map f xs)
each_map P f [] h = tt
each_map P f (x ∷ xs) h = (h.0, each_map P f xs h.1)

-- what holds of each path holds of one among them
pub each_among : (P : Path → Type 0) (ps : List Path) (q : Path) → Each P ps → among ps q ≡ true → P q
each_among P [] q h at = absurd (never_both false at refl)
each_among P (p ∷ ps) q h at = go (bytes_eq q p) refl at (each_among P ps q h.1)
  where
    go : (b : Bool) → bytes_eq q p ≡ b → (b || among ps q) ≡ true → (among ps q ≡ true → P q) → P q
    go true e k more = subst P (sym (same_place q p e)) h.0
    go false e k more = more k

-- ## Tests of lists

pub none_passes : {A : Type 0} (test : A → Bool) → ((x : A) → test x ≡ false) → (xs : List A) → list_any test xs ≡ false
none_passes test none [] = refl
none_passes test none (x ∷ xs) = ap (λ b. b || list_any test xs) (none x) ∙ none_passes test none xs

-- ## Finding

pub find_map : {A B : Type 0} (test : B → Bool) (f : A → B) (xs : List A) → find test (map f xs) ≡ option_map f (find (λ x. test (f x)) xs)
find_map test f [] = refl
find_map test f (x ∷ xs) = go (test (f x)) (find_map test f xs)
  where
    go : (b : Bool) → find test (map f xs) ≡ option_map f (find (λ y. test (f y)) xs) → cond b (Some (f x)) (find test (map f xs)) ≡ option_map f (cond b (Some x) (find (λ y. test (f y)) xs))
    go true more = refl
    go false more = more

-- the last of the list comes first when it is turned round
pub find_last : {A : Type 0} (test : A → Bool) (x : A) (xs : List A) → find test (reverse (x ∷ xs)) ≡ option_or (find test (reverse xs)) (cond (test x) (Some x) None)
find_last test x xs = ap (find test) (reverse-append (x ∷ []) xs) ∙ find-append test (reverse xs) (x ∷ [])

-- a path is found among paths where it is one of them
pub find_path : (ps : List Path) (q : Path) → find (λ p. bytes_eq p q) ps ≡ (if among ps q then Some q else None)
find_path [] q = refl
find_path (p ∷ ps) q = go (bytes_eq q p) refl (find_path ps q)
  where
    go : (b : Bool) → bytes_eq q p ≡ b → find (λ r. bytes_eq r q) ps ≡ (if among ps q then Some q else None)
        → cond (bytes_eq p q) (Some p) (find (λ r. bytes_eq r q) ps) ≡ (if (bytes_eq q p || among ps q) then Some q else None)
    go true e more =
        ap (λ b. cond b (Some p) (find (λ r. bytes_eq r q) ps)) (same_flipped p q ∙ e) ∙ ap Some (sym (same_place q p e))
        ∙ ap (λ b. if (b || among ps q) then Some q else None) (sym e)
    go false e more =
        ap (λ b. cond b (Some p) (find (λ r. bytes_eq r q) ps)) (same_flipped p q ∙ e) ∙ more
        ∙ ap (λ b. if (b || among ps q) then Some q else None) (sym e)

passes_if : {A : Type 0} (test : A → Bool) (y x : A) (o : Option A) (b : Bool) → test y ≡ b → cond b (Some y) o ≡ Some x → (o ≡ Some x → test x ≡ true) → test x ≡ true
passes_if test y x o true t e more = ap test (sym (some_same y x e)) ∙ t
passes_if test y x o false t e more = more e

-- what is found passes
pub find_passes : {A : Type 0} (test : A → Bool) (xs : List A) (x : A) → find test xs ≡ Some x → test x ≡ true
find_passes test [] x e = absurd (none_some x e)
find_passes test (y ∷ xs) x e = passes_if test y x (find test xs) (test y) refl e (find_passes test xs x)

holds_if : {A : Type 0} (P : A → Type 0) (y x : A) (o : Option A) (b : Bool) → P y → cond b (Some y) o ≡ Some x → (o ≡ Some x → P x) → P x
holds_if P y x o true h e more = subst P (some_same y x e) h
holds_if P y x o false h e more = more e

-- what holds of each holds of what is found
pub each_found : {A : Type 0} (P : A → Type 0) (test : A → Bool) (xs : List A) (x : A) → Each P xs → find test xs ≡ Some x → P x
each_found P test [] x h e = absurd (none_some x e)
each_found P test (y ∷ xs) x h e = holds_if P y x (find test xs) (test y) h.0 e (each_found P test xs x h.1)

-- ## Outputs

pub paths_of_outs : (outputs : List OutItem) → flat_map (λ (item : OutItem). map (λ (o : Out). o.path) item.outs) outputs ≡ map (λ (o : Out). o.path) (flat_map (λ (item : OutItem). item.outs) outputs)
paths_of_outs [] = refl
paths_of_outs (item ∷ outputs) =
    ap (λ ps. map (λ (o : Out). o.path) item.outs ++ ps) (paths_of_outs outputs)
    ∙ sym (map-append (λ (o : Out). o.path) item.outs (flat_map (λ (i : OutItem). i.outs) outputs))
