-- What is told anew once what is known and seen has changed at the outputs of one job.
use Rattle.std.proofs.Common.{◌≡◌, ℕ, zero, suc, ◌+◌, Bool, true, false, ◌==◌, List, [], ◌∷◌, ◌++◌, map, Option, Some, None, refl, sym, ap, subst, ◌∙◌, arith}
use Rattle.std.specs.Prelude.{if◌then◌else◌, option_map, slice_set}
use Rattle.std.specs.List.{list_any, slice_get, AllZip}
use Rattle.std.specs.Option.{option_and_then}
use Rattle.std.proofs.lemmas.Bool.{eqb-true, eqb-false, eq-eqb}
use Rattle.std.proofs.lemmas.Option.{same_Some, none-some}
use Rattle.smk_base.proofs.Under.{or_first, or_second}
use Rattle.smk_world.specs.declared.recipe.Out.{Out}
use Rattle.smk_world.specs.World.{out_paths}
use Rattle.smk_world.specs.Trees.{Path, Each, among}
use Rattle.smk_flow.specs.declared.job.Job.{Job}
use Rattle.smk_store.specs.Stores.{Known}
use Rattle.smk_chain.specs.declared.jobs.Maker.{Maker}
use Rattle.smk_plan.specs.declared.seen.Sight.{Sight}
use Rattle.smk_plan.specs.States.{test_some}
use Rattle.smk_plan.specs.Sights.{job_at}
use Rattle.smk_plan_facts.specs.Facts.{IsMade}
use Rattle.smk_plan_facts.specs.Telling.{directories_of, flags_but, is_made_in, is_made_of, is_number, is_told_whole, makers_in, nth, outputs_in}
use Rattle.smk_plan_facts.proofs.WholesTold.{nth_map}
use Rattle.smk_plan_table.specs.declared.suspects.Suspect.{Suspect}
use Rattle.smk_plan_live.specs.declared.base.Base.{Base}
use Rattle.smk_plan_live.specs.Now.{known_now, seen_now}
use Rattle.smk_plan_live.specs.Same.{paths_in, is_user, AreSameBut, users_from}
use Rattle.smk_plan_live.specs.Lives.{AreMakersWhole}
use Rattle.smk_plan_live.proofs.Putting.{put_one}
use Rattle.smk_plan_live.proofs.Restoring.{at_same}
use Rattle.smk_plan_live.proofs.Same.{outputs_same, made_same}

-- ## Readers

-- a user is among the users
pub user_at :
    (outs : List Out) (i : ℕ) (jobs : List Job) (m : ℕ) (k : Job) → slice_get jobs m ≡ Some k → is_user outs k ≡ true →
    list_any (λ (x : ℕ). x == i + m) (users_from outs i jobs) ≡ true
user_at outs i [] m k at reads = absurd (none-some k at)
user_at outs i (x ∷ jobs) zero k at reads =
    let here : i ≡ i + 0 = omega arith in
    ap (λ (b : Bool). list_any (λ (y : ℕ). y == i + 0) ((if b then i ∷ [] else []) ++ users_from outs (suc i) jobs))
    (ap (is_user outs) (same_Some x k at) ∙ reads)
    ∙ or_first (i == i + 0) (list_any (λ (y : ℕ). y == i + 0) (users_from outs (suc i) jobs)) (eq-eqb i (i + 0) here)
user_at outs i (x ∷ jobs) (suc m) k at reads = go (is_user outs x) (user_at outs (suc i) jobs m k at reads)
  where
    go :
        (b : Bool) → list_any (λ (y : ℕ). y == suc i + m) (users_from outs (suc i) jobs) ≡ true →
        list_any (λ (y : ℕ). y == i + suc m) ((if b then i ∷ [] else []) ++ users_from outs (suc i) jobs) ≡ true
    go true more =
        let step : suc i + m ≡ i + suc m = omega arith in
        or_second (i == i + suc m) (list_any (λ (y : ℕ). y == i + suc m) (users_from outs (suc i) jobs))
        (subst (λ (s : ℕ). list_any (λ (y : ℕ). y == s) (users_from outs (suc i) jobs) ≡ true) step more)
    go false more =
        let step : suc i + m ≡ i + suc m = omega arith in
        subst (λ (s : ℕ). list_any (λ (y : ℕ). y == s) (users_from outs (suc i) jobs) ≡ true) step more

-- ## Flags

module _
    (outs : List Out) (old new : List Known) (saw sees : List Sight) (same : AreSameBut outs old new saw sees) (n : ℕ) (jobs : List Job) (j : Job)
    (at : slice_get jobs n ≡ Some j)
    (others : (m : ℕ) (k : Job) → (m ≡ n → ⊥) → slice_get jobs m ≡ Some k → Each (λ q. among (paths_in outs) q ≡ false) (out_paths k.recipe)) where
  abbrev nothing : Path → Bool
  nothing q = false

  -- which outputs are whole
  pub outputs_are : slice_set (map (outputs_in old saw) jobs) n (outputs_in new sees j) ≡ map (outputs_in new sees) jobs
  outputs_are =
      put_one (outputs_in old saw) (outputs_in new sees) jobs n (outputs_in new sees j)
      (λ m k other here. sym (outputs_same outs old new saw sees same nothing k (others m k other here)))
      (λ k here. ap (outputs_in new sees) (same_Some j k (sym at ∙ here)))

  whole_by : (known : List Known) (seen : List Sight) (q : Path) (i : ℕ) → test_some (is_made_in seen q) (nth (map (directories_of known seen) jobs) i)
      ≡ test_some (λ (k : Job). is_made_in seen q (directories_of known seen k)) (job_at jobs i)
  whole_by known seen q i = ap (test_some (is_made_in seen q)) (nth_map (directories_of known seen) jobs i) ∙ go (job_at jobs i)
    where
      go : (o : Option Job) → test_some (is_made_in seen q) (option_map (directories_of known seen) o) ≡ test_some (λ (k : Job). is_made_in seen q (directories_of known seen k)) o
      go None = refl
      go (Some k) = refl

  -- whether the path of a maker is whole
  maker_is :
      (m : Maker) (f : Bool) → IsMade jobs m → f ≡ is_told_whole saw (map (directories_of old saw) jobs) m →
      (if is_number n m.job then is_made_of new sees j m else f) ≡ is_told_whole sees (map (directories_of new sees) jobs) m
  maker_is m f made was = go m.job refl
    where
      of_job :
          (i : ℕ) → m.job ≡ Some i → (i ≡ n → ⊥) → (o : Option Job) → job_at jobs i ≡ o →
          test_some (λ (k : Job). is_made_in saw m.path (directories_of old saw k)) o ≡ test_some (λ (k : Job). is_made_in sees m.path (directories_of new sees k)) o
      of_job i is other None e = refl
      of_job i is other (Some k) e =
          sym (made_same outs old new saw sees same nothing k (others i k other (at_same jobs i ∙ e)) m.path (made i k is e))

      by_number :
          (i : ℕ) → m.job ≡ Some i → (b : Bool) → (i == n) ≡ b →
          (if b then is_made_of new sees j m else f) ≡ test_some (is_made_in sees m.path) (nth (map (directories_of new sees) jobs) i)
      by_number i is true e =
          let here : job_at jobs i ≡ Some j = sym (at_same jobs i) ∙ ap (slice_get jobs) (eqb-true i n e) ∙ at in
          sym (whole_by new sees m.path i ∙ ap (test_some (λ (k : Job). is_made_in sees m.path (directories_of new sees k))) here)
      by_number i is false e =
          was ∙ ap (λ (o : Option ℕ). test_some (is_made_in saw m.path) (option_and_then (nth (map (directories_of old saw) jobs)) o)) is
          ∙ whole_by old saw m.path i ∙ of_job i is (eqb-false i n e) (job_at jobs i) refl ∙ sym (whole_by new sees m.path i)

      go : (o : Option ℕ) → m.job ≡ o → (if is_number n o then is_made_of new sees j m else f) ≡ test_some (is_made_in sees m.path) (option_and_then (nth (map (directories_of new sees) jobs)) o)
      go None e = was ∙ ap (λ (o : Option ℕ). test_some (is_made_in saw m.path) (option_and_then (nth (map (directories_of old saw) jobs)) o)) e
      go (Some i) e = by_number i e (i == n) refl

  abbrev AreWhole : List Known → List Sight → List Maker → List Bool → Type 0
  AreWhole known seen makers flags = AllZip (λ m f. IsMade jobs m → f ≡ is_told_whole seen (map (directories_of known seen) jobs) m) makers flags

  pub makers_are : (makers : List Maker) (flags : List Bool) → AreWhole old saw makers flags → AreWhole new sees makers (flags_but (is_made_of new sees j) n makers flags)
  makers_are [] [] h = tt
  makers_are [] (f ∷ flags) h = absurd h
  makers_are (m ∷ makers) [] h = absurd h
  makers_are (m ∷ makers) (f ∷ flags) h = ((λ made. maker_is m f made (h.0 made)), makers_are makers flags h.1)

-- what is told anew of all makers is so of each
pub flags_made : (b : Base) (flags : List Bool) → flags ≡ makers_in (known_now b) (seen_now b) b.jobs → AreMakersWhole b flags
flags_made b flags is =
    subst (AreMakersWhole b) (sym is)
    (all b.jobs.jobs (is_told_whole (seen_now b) (map (directories_of (known_now b) (seen_now b)) b.jobs.jobs)) b.jobs.makers)
  where
    all : (jobs : List Job) (test : Maker → Bool) (makers : List Maker) → AllZip (λ m f. IsMade jobs m → f ≡ test m) makers (map test makers)
    all jobs test [] = tt
    all jobs test (m ∷ makers) = ((λ made. refl), all jobs test makers)

-- what may be refused
pub doubted_are :
    (P Q : Job → Suspect → Type 0) (n : ℕ) (jobs : List Job) (suspects : List Suspect) (s : Suspect) →
    ((m : ℕ) (k : Job) (x : Suspect) → (m ≡ n → ⊥) → slice_get jobs m ≡ Some k → P k x → Q k x) →
    ((k : Job) → slice_get jobs n ≡ Some k → Q k s) → AllZip P jobs suspects → AllZip Q jobs (slice_set suspects n s)
doubted_are P Q n [] [] s others its h = h
doubted_are P Q n [] (x ∷ suspects) s others its h = absurd h
doubted_are P Q n (k ∷ jobs) [] s others its h = absurd h
doubted_are P Q zero (k ∷ jobs) (x ∷ suspects) s others its h =
    (its k refl, all P Q jobs suspects (λ m y z at p. others (suc m) y z (λ e. absurd (omega (arith, e))) at p) h.1)
  where
    all :
        (P Q : Job → Suspect → Type 0) (js : List Job) (ss : List Suspect) → ((m : ℕ) (y : Job) (z : Suspect) → slice_get js m ≡ Some y → P y z → Q y z) →
        AllZip P js ss → AllZip Q js ss
    all P Q [] [] more p = tt
    all P Q [] (z ∷ ss) more p = absurd p
    all P Q (y ∷ js) [] more p = absurd p
    all P Q (y ∷ js) (z ∷ ss) more p = (more zero y z refl p.0, all P Q js ss (λ m u v at. more (suc m) u v at) p.1)
doubted_are P Q (suc n) (k ∷ jobs) (x ∷ suspects) s others its h = (
  others zero k x (λ e. absurd (omega (arith, e))) refl h.0,
  doubted_are P Q n jobs suspects s (λ m y z other at. others (suc m) y z (λ e. other (omega (arith, e))) at) its h.1,
)
