-- A link leads to the first maker that tells of a path.
use Rattle.std.proofs.Common.{◌≡◌, ℕ, zero, suc, Bool, true, false, cond, ◌||◌, List, [], ◌∷◌, map, find, zip, refl, sym, ap, subst, inl, inr, ◌∙◌, Option, Some, None}
use Rattle.std.proofs.Common.{option_map}
use Rattle.std.specs.List.{list_any, slice_get, AllZip}
use Rattle.std.proofs.lemmas.Option.{slice_get-map}
use Rattle.smk_world.specs.Trees.{Path}
use Rattle.smk_chain.specs.declared.jobs.Jobs.{Jobs}
use Rattle.smk_laws_plan.proofs.CurrentLists.{In, none_some, some_inj}
use Rattle.smk_plan_states.specs.declared.lines.Input.{Input}
use Rattle.smk_plan_states.specs.Lines.{first_place, inputs_from, link_to}

-- ## Places

pub place_found :
    {A : Type 0} (test : A → Bool) (xs : List A) (x : A) → find test xs ≡ Some x →
    (n : ℕ) × (first_place test xs ≡ Some n) × (slice_get xs n ≡ Some x)
place_found test [] x e = absurd (none_some None x refl e)
place_found {A} test (y ∷ ys) x e = go (test y) e (place_found test ys x)
  where
    go :
        (b : Bool) → cond b (Some y) (find test ys) ≡ Some x →
        (find test ys ≡ Some x → (n : ℕ) × (first_place test ys ≡ Some n) × (slice_get ys n ≡ Some x)) →
        (n : ℕ) × (cond b (Some 0) (option_map suc (first_place test ys)) ≡ Some n) × (slice_get (y ∷ ys) n ≡ Some x)
    go true e rest = (0, refl, e)
    go false e rest = let r = rest e in (suc r.0, ap (option_map suc) r.1, r.2)

pub place_at :
    {A : Type 0} (test : A → Bool) (xs : List A) (n : ℕ) → first_place test xs ≡ Some n → (x : A) × (slice_get xs n ≡ Some x) × (test x ≡ true)
place_at test [] n e = absurd (none_some None n refl e)
place_at {A} test (y ∷ ys) n e = go (test y) refl e (place_at test ys)
  where
    behind :
        (o : Option ℕ) → first_place test ys ≡ o → option_map suc o ≡ Some n →
        ((k : ℕ) → first_place test ys ≡ Some k → (x : A) × (slice_get ys k ≡ Some x) × (test x ≡ true)) →
        (x : A) × (slice_get (y ∷ ys) n ≡ Some x) × (test x ≡ true)
    behind None p e rest = absurd (none_some None n refl e)
    behind (Some k) p e rest = let r = rest k p in (r.0, ap (slice_get (y ∷ ys)) (sym (some_inj (suc k) n e)) ∙ r.1, r.2)

    go :
        (b : Bool) → test y ≡ b → cond b (Some 0) (option_map suc (first_place test ys)) ≡ Some n →
        ((k : ℕ) → first_place test ys ≡ Some k → (x : A) × (slice_get ys k ≡ Some x) × (test x ≡ true)) →
        (x : A) × (slice_get (y ∷ ys) n ≡ Some x) × (test x ≡ true)
    go true h e rest = (y, ap (slice_get (y ∷ ys)) (sym (some_inj 0 n e)), h)
    go false h e rest = behind (first_place test ys) refl e rest

-- ## Rows

pub map_at : {A B : Type 0} (f : A → B) (xs : List A) (n : ℕ) (x : A) → slice_get xs n ≡ Some x → slice_get (map f xs) n ≡ Some (f x)
map_at f xs n x e = slice_get-map f xs n ∙ ap (option_map f) e

pub zip_at :
    {A B : Type 0} (R : A → B → Type 0) (xs : List A) (ys : List B) → AllZip R xs ys → (n : ℕ) (x : A) → slice_get xs n ≡ Some x →
    (y : B) × (slice_get ys n ≡ Some y) × R x y
zip_at R [] ys h n x e = absurd (none_some None x refl e)
zip_at R (a ∷ xs) [] h n x e = absurd h
zip_at R (a ∷ xs) (b ∷ ys) h zero x e = (b, refl, subst (λ z. R z b) (some_inj a x e) h.0)
zip_at R (a ∷ xs) (b ∷ ys) h (suc n) x e = zip_at R xs ys h.1 n x e

pub first_at : {A B : Type 0} (xs : List A) (ys : List B) (n : ℕ) (e : A × B) → slice_get (zip xs ys) n ≡ Some e → slice_get xs n ≡ Some e.0
first_at [] ys n e h = absurd (none_some None e refl h)
first_at (x ∷ xs) [] n e h = absurd (none_some None e refl h)
first_at {A} {B} (x ∷ xs) (y ∷ ys) zero e h = ap Some (ap (λ (p : A × B). p.0) (some_inj (x, y) e h))
first_at (x ∷ xs) (y ∷ ys) (suc n) e h = first_at xs ys n e h

pub there : {A : Type 0} (xs : List A) (n : ℕ) (x : A) → slice_get xs n ≡ Some x → In x xs
there [] n x e = absurd (none_some None x refl e)
there (y ∷ xs) zero x e = inl (sym (some_inj y x e))
there (y ∷ xs) (suc n) x e = inr (there xs n x e)

-- a flag for each that holds of the good ones
pub flags_by :
    {A : Type 0} (Good : A → Type 0) (f g : A → Bool) (xs : List A) (flags : List Bool) →
    AllZip (λ x b. Good x → b ≡ f x) xs flags → map f xs ≡ map g xs → AllZip (λ x b. Good x → b ≡ g x) xs flags
flags_by Good f g [] [] h e = tt
flags_by Good f g [] (b ∷ flags) h e = h
flags_by Good f g (x ∷ xs) [] h e = h
flags_by Good f g (x ∷ xs) (b ∷ flags) h e = (λ good. h.0 good ∙ first e, flags_by Good f g xs flags h.1 (rest e))
  where
    first : f x ∷ map f xs ≡ g x ∷ map g xs → f x ≡ g x
    first e = cc

    rest : f x ∷ map f xs ≡ g x ∷ map g xs → map f xs ≡ map g xs
    rest e = cc

-- ## Inputs

pub any_inputs :
    (jobs : Jobs) (name : Path) (test : Option ℕ → Bool) (seen qs : List Path) →
    list_any (λ (i : Input). test i.link) (inputs_from jobs name seen qs) ≡ list_any (λ q. test (link_to jobs.makers q)) qs
any_inputs jobs name test seen [] = refl
any_inputs jobs name test seen (q ∷ qs) = ap (λ b. test (link_to jobs.makers q) || b) (any_inputs jobs name test (q ∷ seen) qs)
