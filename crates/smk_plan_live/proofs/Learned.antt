-- What is kept of reasons is that of the definitions, and what is learned fits it.
use Rattle.std.proofs.Common.{◌≡◌, ◌∙◌, ℕ, zero, suc, ◌<◌, arith, Bool, true, false, ◌||◌, ◌==◌, List, [], ◌∷◌, map, length, Option, Some, None, refl, sym, ap, subst}
use Rattle.std.specs.Prelude.{option_map, slice_index_or, slice_set}
use Rattle.std.specs.BTreeSet.{contains_text}
use Rattle.std.specs.List.{slice_get}
use Rattle.std.proofs.lemmas.Bool.{eqb-true, eqb-false}
use Rattle.std.proofs.lemmas.List.{length-map}
use Rattle.std.proofs.lemmas.Option.{same_Some, slice_get_within}
use Rattle.smk_world.specs.Trees.{Path, among}
use Rattle.smk_flow.specs.declared.job.Job.{Job}
use Rattle.smk_trigger.specs.declared.facts.JobFacts.{JobFacts}
use Rattle.smk_trigger.specs.declared.reason.Reason.{Reason}
use Rattle.smk_trigger.specs.Reasons.{reasons_of}
use Rattle.smk_pick.specs.declared.settings.Settings.{Settings}
use Rattle.smk_plan_facts.specs.Facts.{told_sources}
use Rattle.smk_plan_facts.specs.Telling.{facts_in, forced_by}
use Rattle.smk_plan_states.specs.declared.rows.Own.{Own}
use Rattle.smk_plan_states.specs.declared.rows.Own.TheVariants.{Unknown}
use Rattle.smk_plan_states.specs.Rows.{FitOwn, FitsOwn, own_of}
use Rattle.smk_plan_states.specs.Stays.{has_number}
use Rattle.smk_plan_live.specs.declared.base.Base.{Base}
use Rattle.smk_plan_live.specs.Phases.{begun_in}
use Rattle.smk_plan_live.specs.Now.{known_now, seen_now}
use Rattle.smk_plan_live.specs.Kept.{facts_by, facts_if, facts_kept, facts_now, forced_now, own_by, own_now}
use Rattle.smk_plan_live.specs.Learning.{FitStill, forgotten, learned, noted, own_flag}
use Rattle.smk_plan_live.specs.Lives.{IsSound}

-- ## What is kept

forced_all : (fact : Job → JobFacts) (fo : Job → Bool) → ((j : Job) → (fact j).forced ≡ fo j) → (js : List Job) →
    map (λ (f : JobFacts). f.forced) (map fact js) ≡ map fo js
forced_all fact fo is [] = refl
forced_all fact fo is (j ∷ js) =
    let one = is j in
    let more = forced_all fact fo is js in
    λ i. one i ∷ more i

-- which jobs are forced, job by job
pub forced_is : (settings : Settings) (b : Base) → forced_now settings b ≡ map (forced_by settings (begun_in b.jobs.jobs b.phases)) b.jobs.jobs
forced_is settings b =
    let fo = forced_by settings (begun_in b.jobs.jobs b.phases) in
    forced_all (facts_in (known_now b) (seen_now b) (among (told_sources b.jobs.makers)) fo) fo (λ j. refl) b.jobs.jobs

own_all :
    (b : Base) (told : Path → Bool) (same : (q : Path) → contains_text b.sources q ≡ told q) (fo : Job → Bool) (js : List Job) →
    own_by b js (map fo js) ≡ map reasons_of (map (facts_in (known_now b) (seen_now b) told fo) js)
own_all b told same fo [] = refl
own_all b told same fo (j ∷ js) =
    let more = own_all b told same fo js in
    λ i. reasons_of (facts_in (known_now b) (seen_now b) (λ q. same q i) (λ x. fo j) j) ∷ more i

-- the reasons that are kept are those of the definitions, where it is kept rightly which jobs are forced
pub own_is :
    (settings : Settings) (b : Base) → IsSound b → (forced : List Bool) → forced ≡ forced_now settings b → own_by b b.jobs.jobs forced ≡ own_now settings b
own_is settings b sound forced is =
    let told = among (told_sources b.jobs.makers) in
    let fo = forced_by settings (begun_in b.jobs.jobs b.phases) in
    ap (own_by b b.jobs.jobs) (is ∙ forced_is settings b)
    ∙ own_all b told sound.sources fo b.jobs.jobs

-- the reasons of a job are by what it is judged by
pub own_get :
    (b : Base) (js : List Job) (forced : List Bool) (n : ℕ) → slice_get (own_by b js forced) n ≡ option_map reasons_of (facts_if b (slice_get js n) (slice_get forced n))
own_get b [] forced n = refl
own_get b (j ∷ js) [] n = go (slice_get (j ∷ js) n)
  where
    go : (o : Option Job) → slice_get (own_by b (j ∷ js) []) n ≡ option_map reasons_of (facts_if b o None)
    go None = refl
    go (Some k) = refl
own_get b (j ∷ js) (f ∷ forced) zero = refl
own_get b (j ∷ js) (f ∷ forced) (suc n) = own_get b js forced n

pub index_same : {A : Type 0} (xs ys : List A) (n : ℕ) (none : A) → slice_get xs n ≡ slice_get ys n → slice_index_or xs n none ≡ slice_index_or ys n none
index_same {A = A} xs ys n none same = index_or xs n ∙ ap or_none same ∙ sym (index_or ys n)
  where
    or_none : Option A → A
    or_none None = none
    or_none (Some x) = x

    index_or : (zs : List A) (m : ℕ) → slice_index_or zs m none ≡ or_none (slice_get zs m)
    index_or [] m = refl
    index_or (z ∷ zs) zero = refl
    index_or (z ∷ zs) (suc m) = index_or zs m

-- the reasons of a job, none where there is no such job
abbrev pub reasons_or : Option JobFacts → List Reason
reasons_or None = []
reasons_or (Some f) = reasons_of f

pub own_index :
    (b : Base) (js : List Job) (forced : List Bool) (n : ℕ) → reasons_or (facts_if b (slice_get js n) (slice_get forced n)) ≡ slice_index_or (own_by b js forced) n []
own_index b [] forced n = refl
own_index b (j ∷ js) [] n = go (slice_get (j ∷ js) n)
  where
    go : (o : Option Job) → reasons_or (facts_if b o None) ≡ []
    go None = refl
    go (Some k) = refl
own_index b (j ∷ js) (f ∷ forced) zero = refl
own_index b (j ∷ js) (f ∷ forced) (suc n) = own_index b js forced n

facts_get :
    (b : Base) (told : Path → Bool) (same : (q : Path) → contains_text b.sources q ≡ told q) (fo : Job → Bool) (js : List Job) (n : ℕ) →
    facts_if b (slice_get js n) (slice_get (map fo js) n) ≡ slice_get (map (facts_in (known_now b) (seen_now b) told fo) js) n
facts_get b told same fo [] n = refl
facts_get b told same fo (j ∷ js) zero = λ i. Some (facts_in (known_now b) (seen_now b) (λ q. same q i) (λ x. fo j) j)
facts_get b told same fo (j ∷ js) (suc n) = facts_get b told same fo js n

-- what a job is judged by is that of the definitions
pub facts_are :
    (settings : Settings) (b : Base) → IsSound b → (forced : List Bool) → forced ≡ forced_now settings b → (n : ℕ) →
    facts_kept b forced n ≡ slice_get (facts_now settings b) n
facts_are settings b sound forced is n =
    ap (λ flags. facts_if b (slice_get b.jobs.jobs n) (slice_get flags n)) (is ∙ forced_is settings b)
    ∙ facts_get b (among (told_sources b.jobs.makers)) sound.sources (forced_by settings (begun_in b.jobs.jobs b.phases)) b.jobs.jobs n

-- ## Flags that are told anew

index_here : {A : Type 0} (xs : List A) (n : ℕ) (x none : A) → n < length xs → slice_index_or (slice_set xs n x) n none ≡ x
index_here [] n x none lt = absurd (omega (arith, lt))
index_here (y ∷ xs) zero x none lt = refl
index_here (y ∷ xs) (suc n) x none lt = index_here xs n x none (omega (arith, lt))

index_beyond : {A : Type 0} (xs : List A) (n : ℕ) (x none : A) → slice_get xs n ≡ None → slice_index_or (slice_set xs n x) n none ≡ none
index_beyond [] n x none e = refl
index_beyond (y ∷ xs) zero x none e = cc
index_beyond (y ∷ xs) (suc n) x none e = index_beyond xs n x none e

index_other : {A : Type 0} (xs : List A) (n m : ℕ) (x none : A) → ((m ≡ n) → ⊥) → slice_index_or (slice_set xs n x) m none ≡ slice_index_or xs m none
index_other [] n m x none e = refl
index_other (y ∷ xs) zero zero x none e = absurd (e refl)
index_other (y ∷ xs) zero (suc m) x none e = refl
index_other (y ∷ xs) (suc n) zero x none e = refl
index_other (y ∷ xs) (suc n) (suc m) x none e = index_other xs n m x none (λ is. e (ap suc is))

-- a flag that fits in its place
pub fits_set :
    (flags : List Own) (reasons : List (List Reason)) (n : ℕ) (flag : Own) → FitOwn flags reasons → FitsOwn flag (slice_index_or reasons n []) → FitOwn (slice_set flags n flag) reasons
fits_set flags reasons n flag fits one m = go (m == n) refl (slice_get flags n) refl
  where
    go : (e : Bool) → (m == n) ≡ e → (o : Option Own) → slice_get flags n ≡ o → FitsOwn (slice_index_or (slice_set flags n flag) m Unknown) (slice_index_or reasons m [])
    go false other o has = subst (λ x. FitsOwn x (slice_index_or reasons m [])) (sym (index_other flags n m flag Unknown (eqb-false m n other))) (fits m)
    go true same None has =
        let is : m ≡ n = eqb-true m n same in
        subst (λ (k : ℕ). FitsOwn (slice_index_or (slice_set flags n flag) k Unknown) (slice_index_or reasons k [])) (sym is)
        (subst (λ x. FitsOwn x (slice_index_or reasons n [])) (sym (index_beyond flags n flag Unknown has)) tt)
    go true same (Some old) has =
        let is : m ≡ n = eqb-true m n same in
        subst (λ (k : ℕ). FitsOwn (slice_index_or (slice_set flags n flag) k Unknown) (slice_index_or reasons k [])) (sym is)
        (subst (λ x. FitsOwn x (slice_index_or reasons n [])) (sym (index_here flags n flag Unknown (within flags n old has))) one)
      where
        within : (xs : List Own) (k : ℕ) (x : Own) → slice_get xs k ≡ Some x → k < length xs
        within [] k x e = cc
        within (y ∷ xs) zero x e = omega arith
        within (y ∷ xs) (suc k) x e = omega (arith, within xs k x e)

pub unequal : (m n : ℕ) → (m ≡ n → ⊥) → (m == n) ≡ false
unequal m n apart = go (m == n) refl
  where
    go : (b : Bool) → (m == n) ≡ b → b ≡ false
    go true e = absurd (apart (eqb-true m n e))
    go false e = refl

-- a flag that fits where it isn't forgotten fits then
pub fits_unset :
    (flags : List Own) (n m : ℕ) (reasons : List Reason) → ((m ≡ n → ⊥) → FitsOwn (slice_index_or flags m Unknown) reasons) →
    FitsOwn (slice_index_or (slice_set flags n Unknown) m Unknown) reasons
fits_unset [] n m reasons fits = tt
fits_unset (y ∷ flags) zero zero reasons fits = tt
fits_unset (y ∷ flags) zero (suc m) reasons fits = fits (λ e. absurd (omega (arith, e)))
fits_unset (y ∷ flags) (suc n) zero reasons fits = fits (λ e. absurd (omega (arith, e)))
fits_unset (y ∷ flags) (suc n) (suc m) reasons fits = fits_unset flags n m reasons (λ apart. fits (λ e. apart (omega (arith, e))))

pub fits_but :
    (flags : List Own) (numbers : List ℕ) (m : ℕ) (reasons : List Reason) → (has_number m numbers ≡ false → FitsOwn (slice_index_or flags m Unknown) reasons) →
    FitsOwn (slice_index_or (forgotten flags numbers) m Unknown) reasons
fits_but flags [] m reasons fits = fits refl
fits_but flags (n ∷ numbers) m reasons fits =
    fits_but (slice_set flags n Unknown) numbers m reasons
    (λ free. fits_unset flags n m reasons (λ apart. fits (both (n == m) (has_number m numbers) (unequal n m (λ e. apart (sym e))) free)))
  where
    both : (b c : Bool) → b ≡ false → c ≡ false → (b || c) ≡ false
    both true c e h = cc
    both false c e h = h

-- ## What is learned

own_at :
    (b : Base) (js : List Job) (forced : List Bool) (n : ℕ) (j : Job) → slice_get js n ≡ Some j → n < length forced →
    slice_index_or (own_by b js forced) n [] ≡ reasons_of (facts_by b (slice_index_or forced n false) j)
own_at b [] forced n j e lt = cc
own_at b (k ∷ js) [] n j e lt = absurd (omega (arith, lt))
own_at b (k ∷ js) (f ∷ forced) zero j e lt = ap (λ (x : Job). reasons_of (facts_by b f x)) (same_Some k j e)
own_at b (k ∷ js) (f ∷ forced) (suc n) j e lt = own_at b js forced n j e (omega (arith, lt))

fits_own_of : (reasons : List Reason) → FitsOwn (own_of reasons) reasons
fits_own_of [] = refl
fits_own_of (r ∷ reasons) = refl

-- what is learned of a job fits
pub learned_fits :
    (settings : Settings) (b : Base) → IsSound b → (forced : List Bool) → forced ≡ forced_now settings b → (flags : List Own) (n : ℕ) →
    FitOwn flags (own_now settings b) → FitOwn (learned b forced flags n) (own_now settings b)
learned_fits settings b sound forced is flags n fits = go (slice_get b.jobs.jobs n) refl
  where
    f : Bool
    f = slice_index_or forced n false

    each : length forced ≡ length b.jobs.jobs
    each = ap length is ∙ length-map (facts_now settings b) (λ (x : JobFacts). x.forced)
        ∙ length-map b.jobs.jobs (facts_in (known_now b) (seen_now b) (among (told_sources b.jobs.makers)) (forced_by settings (begun_in b.jobs.jobs b.phases)))

    go : (o : Option Job) → slice_get b.jobs.jobs n ≡ o → FitOwn (noted b f flags n o) (own_now settings b)
    go None e = fits
    go (Some j) e =
        fits_set flags (own_now settings b) n (own_flag b f j) fits
        (subst (λ (own : List Reason). FitsOwn (own_flag b f j) own)
        (sym
        (ap (λ (rs : List (List Reason)). slice_index_or rs n []) (sym (own_is settings b sound forced is))
        ∙ own_at b b.jobs.jobs forced n j e (subst (λ (m : ℕ). n < m) (sym each) (slice_get_within b.jobs.jobs n j e))))
        (fits_own_of (reasons_of (facts_by b f j))))

-- ## Flags that fit still

pub still_learned : (b : Base) (forced : List Bool) (old new : List Own) (n : ℕ) → new ≡ learned b forced old n → FitStill b forced old new
still_learned b forced old new n is settings sound flags fits =
    subst (λ (own : List Own). FitOwn own (own_now settings b)) (sym is) (learned_fits settings b sound forced flags old n fits)

pub still_same : (b : Base) (forced : List Bool) (old new : List Own) → new ≡ old → FitStill b forced old new
still_same b forced old new is settings sound flags fits = subst (λ (own : List Own). FitOwn own (own_now settings b)) (sym is) fits

pub still_more : (b : Base) (forced : List Bool) (old mid new : List Own) → FitStill b forced old mid → FitStill b forced mid new → FitStill b forced old new
still_more b forced old mid new first second settings sound flags fits = second settings sound flags (first settings sound flags fits)
