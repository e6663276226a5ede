-- The one job that makes a path, by its number.
use Rattle.std.proofs.Common.{◌≡◌, ℕ, zero, suc, length, arith, Bool, true, false, cond, List, [], ◌∷◌, map, find, zip, refl, sym, ap, inl, inr, ◌∙◌, Option}
use Rattle.std.proofs.Common.{Some, None, option_map}
use Rattle.std.specs.List.{slice_get}
use Rattle.smk_base.specs.Path.{overlaps}
use Rattle.smk_world.specs.Trees.{Path}
use Rattle.smk_flow.specs.declared.job.Job.{Job}
use Rattle.smk_trigger.specs.declared.reason.State.{State}
use Rattle.smk_plan.specs.States.{makes}
use Rattle.smk_plan.specs.Sights.{job_at}
use Rattle.smk_plan_states.specs.Served.{AreApart, outputs_of}
use Rattle.smk_world.specs.World.{out_paths}
use Rattle.smk_world.specs.Trees.{Each}
use Rattle.std.proofs.Common.{◌++◌, subst}
use Rattle.smk_laws_plan.proofs.CurrentLists.{In, none_some, some_inj, clash_of, in_flat, find_some}
use Rattle.smk_laws_plan.proofs.CurrentPaths.{touch_overlaps, above_touch}
use Rattle.smk_laws_plan.proofs.CurrentApart.{Apart, JobsApart, makes_above, maker_found}

-- ## Outputs that lie apart

pub each_in : {A : Type 0} (P : A → Type 0) (xs : List A) (x : A) → Each P xs → In x xs → P x
each_in P [] x h i = absurd i
each_in P (y ∷ xs) x h (inl e) = subst P (sym e) h.0
each_in P (y ∷ xs) x h (inr i) = each_in P xs x h.1 i

each_split : {A : Type 0} (P : A → Type 0) (xs ys : List A) → Each P (xs ++ ys) → Each P xs × Each P ys
each_split P [] ys h = (tt, h)
each_split P (x ∷ xs) ys h = let r = each_split P xs ys h.1 in ((h.0, r.0), r.1)

apart_append :
    (ps qs : List Path) → AreApart (ps ++ qs) →
    Apart ps × AreApart qs × ((p q : Path) → In p ps → In q qs → overlaps q p ≡ false)
apart_append [] qs h = (tt, h, λ p q i k. absurd i)
apart_append (x ∷ ps) qs h =
    let s = each_split (λ q. overlaps q x ≡ false) ps qs h.0 in
    let r = apart_append ps qs h.1 in
    ((λ q i. each_in (λ q. overlaps q x ≡ false) ps q s.0 i, r.0), r.1, pick s.1 r.2)
  where
    pick :
        Each (λ q. overlaps q x ≡ false) qs → ((p q : Path) → In p ps → In q qs → overlaps q p ≡ false) → (p q : Path) → In p (x ∷ ps) → In q qs →
        overlaps q p ≡ false
    pick e ih p q (inl same) k = subst (λ y. overlaps q y ≡ false) (sym same) (each_in (λ q. overlaps q x ≡ false) qs q e k)
    pick e ih p q (inr i) k = ih p q i k

pub jobs_apart_from : (js : List Job) → AreApart (outputs_of js) → JobsApart js
jobs_apart_from [] h = tt
jobs_apart_from (j ∷ js) h =
    let r = apart_append (out_paths j.recipe) (outputs_of js) h in
    (λ k p q i a b. r.2 p q a (in_flat (λ (j : Job). out_paths j.recipe) js k q i b), r.0, jobs_apart_from js r.1)

-- ## Makers by number

pub job_there : (js : List Job) (n : ℕ) (j : Job) → job_at js n ≡ Some j → In j js
job_there [] n j e = absurd (none_some None j refl e)
job_there (k ∷ js) zero j e = inl (sym (some_inj k j e))
job_there (k ∷ js) (suc n) j e = inr (job_there js n j e)

pub at_place : (js : List Job) (n : ℕ) → slice_get js n ≡ job_at js n
at_place [] n = refl
at_place (j ∷ js) zero = refl
at_place (j ∷ js) (suc n) = at_place js n

-- there is no state of a number where there is no job of it
pub none_there : (js : List Job) (ss : List State) (n : ℕ) → length ss ≡ length js → job_at js n ≡ None → slice_get ss n ≡ None
none_there [] [] n e h = refl
none_there [] (s ∷ ss) n e h = absurd (omega arith)
none_there (j ∷ js) [] n e h = absurd (omega arith)
none_there (j ∷ js) (s ∷ ss) zero e h = absurd (none_some (Some j) j h refl)
none_there (j ∷ js) (s ∷ ss) (suc n) e h = none_there js ss n (omega arith) h

-- the job of the number makes it, with its state
pub at_number :
    (js : List Job) (ss : List State) (n : ℕ) (j : Job) (q : Path) → JobsApart js → job_at js n ≡ Some j → makes j q ≡ true →
    (pair : State → Job × State) → ((s : State) → pair s ≡ (j, s)) →
    find (λ (e : Job × State). makes e.0 q) (zip js ss) ≡ option_map pair (slice_get ss n)
at_number [] ss n j q apart e m pair is = absurd (none_some None j refl e)
at_number (k ∷ js) [] n j q apart e m pair is = refl
at_number (k ∷ js) (s ∷ ss) zero j q apart e m pair is =
    ap (λ b. cond b (Some (k, s)) (find (λ (e : Job × State). makes e.0 q) (zip js ss))) (ap (λ (x : Job). makes x q) (some_inj k j e) ∙ m)
    ∙ ap Some ((λ i. (some_inj k j e i, s)) ∙ sym (is s))
at_number (k ∷ js) (s ∷ ss) (suc n) j q apart e m pair is = go (makes k q) refl (at_number js ss n j q apart.2 e m pair is)
  where
    go :
        (b : Bool) → makes k q ≡ b → find (λ (e : Job × State). makes e.0 q) (zip js ss) ≡ option_map pair (slice_get ss n) →
        cond b (Some (k, s)) (find (λ (e : Job × State). makes e.0 q) (zip js ss)) ≡ option_map pair (slice_get ss n)
    go false f ih = ih
    go true f ih =
        let a = makes_above k q f in
        let b = makes_above j q m in
        absurd (clash_of (overlaps b.0 a.0) (touch_overlaps b.0 a.0 (above_touch q b.0 a.0 b.2 a.2)) (apart.0 j a.0 b.0 (job_there js n j e) a.1 b.1))

-- the job that is found doesn't depend on the states
pub first_found :
    (js : List Job) (ss : List State) (q : Path) → length ss ≡ length js →
    option_map (λ (e : Job × State). e.0) (find (λ (e : Job × State). makes e.0 q) (zip js ss)) ≡ find (λ j. makes j q) js
first_found [] ss q e = refl
first_found (j ∷ js) [] q e = absurd (omega arith)
first_found (j ∷ js) (s ∷ ss) q e = go (makes j q) (first_found js ss q (omega arith))
  where
    go :
        (b : Bool) → option_map (λ (e : Job × State). e.0) (find (λ (e : Job × State). makes e.0 q) (zip js ss)) ≡ find (λ j. makes j q) js →
        option_map (λ (e : Job × State). e.0) (cond b (Some (j, s)) (find (λ (e : Job × State). makes e.0 q) (zip js ss)))
        ≡ cond b (Some j) (find (λ j. makes j q) js)
    go true ih = refl
    go false ih = ih

none_first : (o : Option (Job × State)) → option_map (λ (e : Job × State). e.0) o ≡ None → o ≡ None
none_first None e = refl
none_first (Some x) e = absurd (none_some None x.0 refl (sym e))

-- none makes it, whatever the states
pub none_found :
    (js : List Job) (ss : List State) (q : Path) → length ss ≡ length js → find (λ j. makes j q) js ≡ None →
    find (λ (e : Job × State). makes e.0 q) (zip js ss) ≡ None
none_found js ss q each e = none_first (find (λ (e : Job × State). makes e.0 q) (zip js ss)) (first_found js ss q each ∙ e)

found_with :
    {B : Type 0} (f : Job → B) (js : List Job) (q : Path) → find (λ (e : Job × B). makes e.0 q) (zip js (map f js))
    ≡ option_map (λ j. (j, f j)) (find (λ j. makes j q) js)
found_with f [] q = refl
found_with {B} f (j ∷ js) q = go (makes j q) (found_with f js q)
  where
    go :
        (b : Bool) → find (λ (e : Job × B). makes e.0 q) (zip js (map f js)) ≡ option_map (λ j. (j, f j)) (find (λ j. makes j q) js) →
        cond b (Some (j, f j)) (find (λ (e : Job × B). makes e.0 q) (zip js (map f js)))
        ≡ option_map (λ j. (j, f j)) (cond b (Some j) (find (λ j. makes j q) js))
    go true e = refl
    go false e = e

-- the one job that makes the path is found
pub found_one : (js : List Job) (j : Job) (q : Path) → JobsApart js → In j js → makes j q ≡ true → find (λ j. makes j q) js ≡ Some j
found_one js j q apart i m = back (find (λ j. makes j q) js) (sym (found_with flagged js q) ∙ maker_found flagged js j q apart i m)
  where
    flagged : Job → Bool
    flagged x = true

    both : Job → Job × Bool
    both x = (x, true)

    back : (o : Option Job) → option_map both o ≡ Some (both j) → o ≡ Some j
    back None e = absurd (none_some None (both j) refl e)
    back (Some x) e = ap Some (ap (λ (y : Job × Bool). y.0) (some_inj (both x) (both j) e))

pub find_none : {A : Type 0} (test : A → Bool) (xs : List A) (x : A) → find test xs ≡ None → In x xs → test x ≡ false
find_none test xs x e i = go (test x) refl
  where
    go : (b : Bool) → test x ≡ b → b ≡ false
    go false t = refl
    go true t = let r = find_some test xs x i t in absurd (none_some (find test xs) r.0 e r.1)
