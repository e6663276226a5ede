-- Of what the jobs of a plan read it is told which job makes it.
use Rattle.std.proofs.Common.{◌≡◌, ◌≤◌, ◌<◌, inl, inr, ℕ, zero, suc, ◌+◌, Bool, true, false, cond, List, [], ◌∷◌, ◌++◌, map, zip, find, length, refl, ap, sym, subst, ◌∙◌, arith, Option, Some, None, option_map, bytes_eq}
use Rattle.std.specs.Prelude.{slice_get}
use Rattle.std.specs.Option.{option_and_then}
use Rattle.smk_world.specs.World.{in_paths}
use Rattle.smk_world.specs.Trees.{Path, IsIn}
use Rattle.smk_flow.specs.declared.job.Job.{Job}
use Rattle.smk_store.specs.Images.{Image}
use Rattle.smk_chain.specs.declared.jobs.Jobs.{Jobs}
use Rattle.smk_chain.specs.declared.jobs.Maker.{Maker}
use Rattle.smk_chain_walk.specs.Links.{maker_told}
use Rattle.smk_trigger.specs.declared.reason.State.{State}
use Rattle.smk_pick.specs.declared.settings.Settings.{Settings}
use Rattle.smk_plan.specs.Sights.{job_at}
use Rattle.smk_plan.specs.States.{Plan, HasStates, nothing_done, gathers_from, makes, maker_of, staged, state_of}
use Rattle.smk_laws_protocol.proofs.Basics.{each_in}
use Rattle.smk_laws_plan.proofs.CurrentLists.{in_left}
use Rattle.smk_plan.specs.Duties.{maker_in}
use Rattle.smk_plan_states.specs.Served.{AreServed, IsBelow, IsToldOf, ReadEarlier}
use Rattle.smk_plan_states.specs.Judged.{with_states}
use Rattle.smk_safe.specs.Planned.{IsRead}
use Rattle.smk_safe.specs.Dues.{TellsMakers}

-- ## What is told of a path

weaken : (n m : ℕ) (o : Option ℕ) → n ≤ m → IsBelow n o → IsBelow m o
weaken n m None le h = tt
weaken n m (Some k) le h = omega (arith, le, h)

read_told : (all : Jobs) (n : ℕ) (js : List Job) (j : Job) (q : Path) → ReadEarlier all n js → IsIn js j → IsIn (in_paths j.recipe) q → (t : IsToldOf all q) × IsBelow (n + length js) t.number
read_told all n [] j q h i r = absurd i
read_told all n (x ∷ js) j q h (inl e) r =
    let t = each_in (λ p. (t : IsToldOf all p) × IsBelow n t.number) (in_paths x.recipe ++ gathers_from x) q h.0 (in_left q (in_paths x.recipe) (gathers_from x) (subst (λ (z : Job). IsIn (in_paths z.recipe) q) e r)) in
    (t.0, weaken n (n + suc (length js)) t.0.number (omega arith) t.1)
read_told all n (x ∷ js) j q h (inr i) r =
    let t = read_told all (suc n) js j q h.1 i r in
    (t.0, weaken (suc n + length js) (n + suc (length js)) t.0.number (omega arith) t.1)

number_in : (makers : List Maker) (q : Path) (number : Option ℕ) → maker_told makers q ≡ Some number → maker_in makers q ≡ number
number_in makers q number = go (find (λ (m : Maker). bytes_eq m.path q) makers)
  where
    go : (o : Option Maker) → option_map (λ (m : Maker). m.job) o ≡ Some number → option_and_then (λ (m : Maker). m.job) o ≡ number
    go None h = cc
    go (Some m) h = cc

-- ## Jobs and states

abbrev with_state : (Job → State) → Job → Job × State
with_state st j = (j, st j)

find_zip : (st : Job → State) (q : Path) (js : List Job) → find (λ (e : Job × State). makes e.0 q) (zip js (map st js)) ≡ option_map (with_state st) (find (λ j. makes j q) js)
find_zip st q [] = refl
find_zip st q (j ∷ js) = go (makes j q) (find_zip st q js)
  where
    go : (b : Bool) → find (λ (e : Job × State). makes e.0 q) (zip js (map st js)) ≡ option_map (with_state st) (find (λ k. makes k q) js) → cond b (Some (with_state st j)) (find (λ (e : Job × State). makes e.0 q) (zip js (map st js))) ≡ option_map (with_state st) (cond b (Some j) (find (λ k. makes k q) js))
    go true more = refl
    go false more = more

get_zip : (st : Job → State) (js : List Job) (n : ℕ) → slice_get (zip js (map st js)) n ≡ option_map (with_state st) (job_at js n)
get_zip st [] zero = refl
get_zip st [] (suc n) = refl
get_zip st (j ∷ js) zero = refl
get_zip st (j ∷ js) (suc n) = get_zip st js n

at_below : (js : List Job) (n : ℕ) → n < length js → (j : Job) × (job_at js n ≡ Some j)
at_below [] n h = absurd (omega (arith, h))
at_below (j ∷ js) zero h = (j, refl)
at_below (j ∷ js) (suc n) h = at_below js n (omega (arith, h))

-- ## Of a plan

module _ (image : Image) (settings : Settings) (jobs : Jobs) (states : List State) (solved : HasStates image settings nothing_done (with_states jobs states)) (asked : List Path) (served : AreServed jobs asked) where
  abbrev plan : Plan
  plan = with_states jobs states

  abbrev st : Job → State
  st j = state_of image settings nothing_done plan j

  staged_are : staged plan ≡ zip jobs.jobs (map st jobs.jobs)
  staged_are = ap (zip jobs.jobs) solved

  told_at : (q : Path) → IsRead plan q → (t : IsToldOf jobs q) × IsBelow (length jobs.jobs) t.number
  told_at q read = let t = read_told jobs 0 jobs.jobs read.0 q served.reads read.1 read.2 in (t.0, weaken (0 + length jobs.jobs) (length jobs.jobs) t.0.number (omega arith) t.1)

  maker_is : (q : Path) (t : IsToldOf jobs q) → maker_of plan q ≡ option_map (with_state st) (option_and_then (job_at jobs.jobs) t.number)
  maker_is q t = ap (find (λ (e : Job × State). makes e.0 q)) staged_are ∙ find_zip st q jobs.jobs ∙ ap (option_map (with_state st)) t.right

  none_told : (number : Option ℕ) → IsBelow (length jobs.jobs) number → option_map (with_state st) (option_and_then (job_at jobs.jobs) number) ≡ None → number ≡ None
  none_told None below h = refl
  none_told (Some n) below h = absurd (some_none (sym (ap (option_map (with_state st)) (at_below jobs.jobs n below).1) ∙ h))
    where
      some_none : {x : Job × State} → Some x ≡ None → ⊥
      some_none e = cc

  some_told : (number : Option ℕ) (e : Job × State) → option_map (with_state st) (option_and_then (job_at jobs.jobs) number) ≡ Some e → (n : ℕ) × (number ≡ Some n) × (slice_get (staged plan) n ≡ Some e)
  some_told None e h = cc
  some_told (Some n) e h = (n, refl, ap (λ l. slice_get l n) staged_are ∙ get_zip st jobs.jobs n ∙ h)

  pub tells_makers : TellsMakers jobs.makers plan
  tells_makers = record {
    source = λ q read none.
        let t = told_at q read in
        number_in jobs.makers q t.0.number t.0.told ∙ none_told t.0.number t.1 (sym (maker_is q t.0) ∙ none);
    made = λ q e read made.
        let t = told_at q read in
        let n = some_told t.0.number e (sym (maker_is q t.0) ∙ made) in
        (n.0, number_in jobs.makers q t.0.number t.0.told ∙ n.1, n.2);
  }

  -- of a target too it is told which job of the plan makes it
  pub target_told : (p : Path) → IsIn asked p → (e : Job × State) → maker_of plan p ≡ Some e → (n : ℕ) × (maker_in jobs.makers p ≡ Some n) × (slice_get (staged plan) n ≡ Some e)
  target_told p i e made =
      let t = each_in (IsToldOf jobs) asked p served.targets i in
      let n = some_told t.number e (sym (maker_is p t) ∙ made) in
      (n.0, number_in jobs.makers p t.number t.told ∙ n.1, n.2)
