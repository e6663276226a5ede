-- Which jobs children read from is what is told of it.
use Rattle.std.proofs.Common.{◌≡◌, ℕ, zero, suc, Bool, true, false, not, ◌&&◌, ◌||◌, List, [], ◌∷◌, map, find, zip, refl, sym, ap, subst, ◌∙◌, Option, Some, None, option_map, is_some, ◌++◌, inl}
use Rattle.std.specs.Prelude.{bytes_eq}
use Rattle.std.specs.List.{list_any, slice_get}
use Rattle.std.specs.Option.{option_and_then}
use Rattle.std.proofs.Math.Bool.{and-true, and-false}
use Rattle.std.specs.Cmp.{both_ways}
use Rattle.smk_base.proofs.Places.{same_place, place_itself}
use Rattle.smk_world.specs.World.{in_paths, out_paths}
use Rattle.smk_world.specs.Trees.{Path, among, first}
use Rattle.smk_pattern.specs.Reading.{or_empty}
use Rattle.smk_flow.specs.declared.job.Job.{Job}
use Rattle.smk_store.specs.Images.{Image}
use Rattle.smk_chain.specs.declared.jobs.Jobs.{Jobs}
use Rattle.smk_trigger.specs.declared.reason.State.{State}
use Rattle.smk_pick.specs.declared.settings.Settings.{Settings}
use Rattle.smk_plan.specs.States.{Progress, makes, gathers_from, job_path, kept_state, is_read_now, test_some}
use Rattle.smk_plan.specs.Sights.{job_at}
use Rattle.smk_plan_states.specs.Shapes.{Parts}
use Rattle.smk_plan_states.specs.Served.{AreApart, outputs_of, ReadEarlier}
use Rattle.smk_plan_states.specs.Judged.{with_states}
use Rattle.smk_plan_states.specs.Parts.{parts_of}
use Rattle.smk_plan_states.specs.Paths.{site_at}
use Rattle.smk_plan_states.specs.InUse.{maker_name, is_other, is_made_for, is_used_by, in_use_told, is_in_use_told}
use Rattle.smk_laws_plan.proofs.CurrentLists.{In, in_left, find_in, find_some, none_some, some_inj, or_first}
use Rattle.smk_laws_plan.proofs.CurrentPaths.{in_among}
use Rattle.smk_laws_plan.proofs.CurrentApart.{JobsApart, maker_found, makes_above}
use Rattle.smk_laws_plan.proofs.PlanStates.{any_same}
use Rattle.smk_plan_states.proofs.Tests.{any_never}
use Rattle.smk_plan_states.proofs.Apart.{each_in, jobs_apart_from}
use Rattle.smk_plan_states.proofs.Meaning.{found_with}
use Rattle.smk_plan_states.proofs.Told.{IsReadOf, told_below, read_of}

-- the one job that makes the path is found
pub found_one : (js : List Job) (j : Job) (q : Path) → JobsApart js → In j js → makes j q ≡ true → find (λ j. makes j q) js ≡ Some j
found_one js j q apart i m = back (find (λ j. makes j q) js) (sym (found_with flagged js q) ∙ maker_found flagged js j q apart i m)
  where
    flagged : Job → Bool
    flagged x = true

    both : Job → Job × Bool
    both x = (x, true)

    back : (o : Option Job) → option_map both o ≡ Some (both j) → o ≡ Some j
    back None e = absurd (none_some None (both j) refl e)
    back (Some x) e = ap Some (ap (λ (y : Job × Bool). y.0) (some_inj (both x) (both j) e))

pub find_none : {A : Type 0} (test : A → Bool) (xs : List A) (x : A) → find test xs ≡ None → In x xs → test x ≡ false
find_none test xs x e i = go (test x) refl
  where
    go : (b : Bool) → test x ≡ b → b ≡ false
    go false t = refl
    go true t = let r = find_some test xs x i t in absurd (none_some (find test xs) r.0 e r.1)

-- ## Lists

pub any_zipped : {A B C : Type 0} (f : B × C → Bool) (g : A → B) (h : A → C) (xs : List A) → list_any f (zip (map g xs) (map h xs)) ≡ list_any (λ x. f (g x, h x)) xs
any_zipped f g h [] = refl
any_zipped f g h (x ∷ xs) = ap (λ b. f (g x, h x) || b) (any_zipped f g h xs)

pub any_and : {A : Type 0} (c : Bool) (f : A → Bool) (xs : List A) → list_any (λ x. c && f x) xs ≡ (c && list_any f xs)
any_and true f xs = refl
any_and false f xs = any_never xs

parts_at : (image : Image) (js : List Job) (n : Option ℕ) → option_and_then (slice_get (map (parts_of image) js)) n ≡ option_map (parts_of image) (option_and_then (job_at js) n)
parts_at image js None = refl
parts_at image js (Some n) = go js n
  where
    go : (js : List Job) (n : ℕ) → slice_get (map (parts_of image) js) n ≡ option_map (parts_of image) (job_at js n)
    go [] n = refl
    go (j ∷ js) zero = refl
    go (j ∷ js) (suc n) = go js n

-- ## One job that is read from

module _ (js : List Job) (apart : JobsApart js) (j : Job) (here : In j js) where
  -- the name of the job that makes the path
  abbrev name_by : Path → Option Path
  name_by q = option_and_then (λ (i : Job). first (out_paths i.recipe)) (find (λ i. makes i q) js)

  first_in : (i : Job) (p : Path) → first (out_paths i.recipe) ≡ Some p → In p (out_paths i.recipe)
  first_in i p e = go (out_paths i.recipe) e
    where
      go : (ps : List Path) → first ps ≡ Some p → In p ps
      go [] e = absurd (none_some None p refl e)
      go (x ∷ ps) e = inl (sym (some_inj x p e))

  output_made : (i : Job) (p : Path) → In p (out_paths i.recipe) → makes i p ≡ true
  output_made i p o = or_first (among (out_paths i.recipe) p) _ (in_among (out_paths i.recipe) p o)

  -- it has a name, if it makes a path
  pub unnamed : first (out_paths j.recipe) ≡ None → (q : Path) → makes j q ≡ false
  unnamed e q = go (makes j q) refl
    where
      none : (ps : List Path) (p : Path) → first ps ≡ None → In p ps → ⊥
      none [] p e i = i
      none (x ∷ ps) p e i = none_some (Some x) x e refl

      go : (b : Bool) → makes j q ≡ b → b ≡ false
      go false m = refl
      go true m = let a = makes_above j q m in absurd (none (out_paths j.recipe) a.0 e a.1)

  -- the name tells whether it makes the path
  named : (p : Path) → first (out_paths j.recipe) ≡ Some p → (q : Path) → test_some (λ x. bytes_eq p x) (name_by q) ≡ makes j q
  named p e q = go (find (λ i. makes i q) js) refl
    where
      one : (i : Job) → find (λ i. makes i q) js ≡ Some i → (o : Option Path) → first (out_paths i.recipe) ≡ o → test_some (λ x. bytes_eq p x) o ≡ makes j q
      one i f None n = sym (go2 (makes j q) refl)
        where
          go2 : (b : Bool) → makes j q ≡ b → b ≡ false
          go2 false m = refl
          go2 true m =
              let same : i ≡ j = some_inj i j (sym f ∙ found_one js j q apart here m) in
              absurd (none_some (first (out_paths i.recipe)) p n (ap (λ (x : Job). first (out_paths x.recipe)) same ∙ e))
      one i f (Some x) n = both_ways (bytes_eq p x) (makes j q) forth back
        where
          forth : bytes_eq p x ≡ true → makes j q ≡ true
          forth b =
              let there = (find_in (λ i. makes i q) js i f).0 in
              let own : makes i p ≡ true = subst (λ y. makes i y ≡ true) (sym (same_place p x b)) (output_made i x (first_in i x n)) in
              let same : i ≡ j = some_inj i j (sym (found_one js i p apart there own) ∙ found_one js j p apart here (output_made j p (first_in j p e))) in
              subst (λ y. makes y q ≡ true) same (find_in (λ i. makes i q) js i f).1

          back : makes j q ≡ true → bytes_eq p x ≡ true
          back m =
              let same : i ≡ j = some_inj i j (sym f ∙ found_one js j q apart here m) in
              let path : p ≡ x = some_inj p x (sym e ∙ ap (λ (y : Job). first (out_paths y.recipe)) (sym same) ∙ n) in
              subst (λ y. bytes_eq p y ≡ true) path (place_itself p)

      go : (o : Option Job) → find (λ i. makes i q) js ≡ o → test_some (λ x. bytes_eq p x) (option_and_then (λ (i : Job). first (out_paths i.recipe)) o) ≡ makes j q
      go None f = sym (find_none (λ i. makes i q) js j f here)
      go (Some i) f = one i f (first (out_paths i.recipe)) refl

-- being another one than the reader
other_split : (reader : Parts) (p : Path) (o : Option Path) → test_some (is_other reader p) o ≡ (not (bytes_eq p (or_empty (first reader.outputs))) && test_some (λ x. bytes_eq p x) o)
other_split reader p None = sym (and-false (not (bytes_eq p (or_empty (first reader.outputs)))))
other_split reader p (Some x) = go (bytes_eq p x) refl
  where
    own : Path
    own = or_empty (first reader.outputs)

    go : (b : Bool) → bytes_eq p x ≡ b → (b && not (bytes_eq x (or_empty (first reader.outputs)))) ≡ (not (bytes_eq p (or_empty (first reader.outputs))) && b)
    go false e = sym (and-false (not (bytes_eq p (or_empty (first reader.outputs)))))
    go true e = ap (λ y. not (bytes_eq y (or_empty (first reader.outputs)))) (sym (same_place p x e)) ∙ sym (and-true (not (bytes_eq p (or_empty (first reader.outputs)))))

module _
    (image : Image) (settings : Settings) (progress : Progress) (J : Jobs) (ss : List State) (targets : List Path)
    (outputs : AreApart (outputs_of J.jobs)) (reads : ReadEarlier J 0 J.jobs)
    (used : Path → Bool)
    (told : (name : Path) → used name ≡ in_use_told (site_at image J) (map (parts_of image) J.jobs) (map (kept_state image settings progress (with_states J [])) J.jobs) name) where
  abbrev apart : JobsApart J.jobs
  apart = jobs_apart_from J.jobs outputs

  abbrev kept : Job → Option State
  kept = kept_state image settings progress (with_states J [])

  -- the name of the maker of what a job reads
  name_is : (k : Job) → In k J.jobs → (q : Path) → In q (in_paths k.recipe) → maker_name (map (parts_of image) J.jobs) (site_at image J q) ≡ option_and_then (λ (i : Job). first (out_paths i.recipe)) (find (λ i. makes i q) J.jobs)
  name_is k there q i =
      let r = read_of J 0 J.jobs k reads there in
      let t = told_below image J r.0 q (each_in (IsReadOf J r.0) (in_paths k.recipe ++ gathers_from k) q r.1 (in_left q (in_paths k.recipe) (gathers_from k) i)) in
      ap (maker_name (map (parts_of image) J.jobs)) t.1.found
      ∙ ap (option_and_then (λ (m : Parts). first m.outputs)) (parts_at image J.jobs t.0.job ∙ ap (option_map (parts_of image)) (sym t.1.maker))
      ∙ go (find (λ i. makes i q) J.jobs)
    where
      go : (o : Option Job) → option_and_then (λ (m : Parts). first m.outputs) (option_map (parts_of image) o) ≡ option_and_then (λ (i : Job). first (out_paths i.recipe)) o
      go None = refl
      go (Some i) = refl

  module _ (j : Job) (here : In j J.jobs) where
    abbrev reads_it : Job → Bool
    reads_it k = is_some (kept k) && (not (bytes_eq (job_path j) (job_path k)) && list_any (makes j) (in_paths k.recipe))

    by_name : (o : Option Path) → first (out_paths j.recipe) ≡ o → test_some used o ≡ list_any reads_it J.jobs
    by_name None e =
        sym (any_same reads_it (λ k. false) J.jobs (λ k i. never k) ∙ any_never J.jobs)
      where
        never : (k : Job) → reads_it k ≡ false
        never k =
            ap (λ b. is_some (kept k) && (not (bytes_eq (job_path j) (job_path k)) && b))
            (any_same (makes j) (λ q. false) (in_paths k.recipe) (λ q i. unnamed J.jobs apart j here e q) ∙ any_never (in_paths k.recipe))
            ∙ ap (λ b. is_some (kept k) && b) (and-false (not (bytes_eq (job_path j) (job_path k))))
            ∙ and-false (is_some (kept k))
    by_name (Some p) e =
        told p
        ∙ any_zipped (is_used_by (site_at image J) (map (parts_of image) J.jobs) p) (parts_of image) kept J.jobs
        ∙ any_same _ reads_it J.jobs (λ k i. ap (λ b. is_some (kept k) && b) (one k i))
      where
        name : job_path j ≡ p
        name = ap or_empty e

        one : (k : Job) → In k J.jobs → list_any (is_made_for (site_at image J) (map (parts_of image) J.jobs) (parts_of image k) p) (in_paths k.recipe) ≡ (not (bytes_eq (job_path j) (job_path k)) && list_any (makes j) (in_paths k.recipe))
        one k i =
            any_same _ (λ q. not (bytes_eq p (job_path k)) && makes j q) (in_paths k.recipe)
            (λ q r. ap (test_some (is_other (parts_of image k) p)) (name_is k i q r)
            ∙ other_split (parts_of image k) p (name_by J.jobs apart j here q)
            ∙ ap (λ b. not (bytes_eq p (job_path k)) && b) (named J.jobs apart j here p e q))
            ∙ any_and (not (bytes_eq p (job_path k))) (makes j) (in_paths k.recipe)
            ∙ ap (λ y. not (bytes_eq y (job_path k)) && list_any (makes j) (in_paths k.recipe)) (sym name)

    pub read_is : is_in_use_told used (parts_of image j) ≡ is_read_now image settings progress (with_states J ss) j
    read_is = by_name (first (out_paths j.recipe)) refl
