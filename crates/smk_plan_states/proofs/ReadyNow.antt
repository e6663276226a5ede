-- What is ready by some states, of which there is one for each job.
use Rattle.std.proofs.Common.{◌≡◌, ℕ, zero, suc, length, arith, Bool, true, false, cond, ◌&&◌, List, [], ◌∷◌, ◌++◌, map, flat_map, find, zip, refl, sym, ap, inl, inr, ◌∙◌, Option, Some, None, option_map, is_some}
use Rattle.std.specs.List.{slice_get}
use Rattle.std.specs.Option.{option_and_then}
use Rattle.std.proofs.Math.Bool.{and-false}
use Rattle.smk_base.specs.Path.{is_under, overlaps}
use Rattle.smk_world.specs.World.{in_paths, out_paths}
use Rattle.smk_world.specs.Trees.{Path, among, folder_over, folders_of}
use Rattle.smk_flow.specs.declared.job.Job.{Job}
use Rattle.smk_store.specs.Images.{Image}
use Rattle.smk_chain.specs.declared.jobs.Jobs.{Jobs}
use Rattle.smk_trigger.specs.declared.reason.State.{State}
use Rattle.smk_trigger.specs.JobStates.{is_clean}
use Rattle.smk_pick.specs.declared.settings.Settings.{Settings}
use Rattle.smk_plan.specs.States.{Plan, Progress, makes, gathers_from, stands_whole, test_some, none_or_one, maker_of, directory_over, awaits, is_ready}
use Rattle.smk_plan.specs.Sights.{job_at}
use Rattle.smk_plan_states.specs.Shapes.{Directory, Parts, Wait, Site}
use Rattle.smk_plan_states.specs.Served.{AreServed, IsToldOf}
use Rattle.smk_plan_states.specs.Judged.{with_states}
use Rattle.smk_plan_states.specs.Parts.{directory_at, parts_of}
use Rattle.smk_plan_states.specs.Sites.{over_of}
use Rattle.smk_plan_states.specs.Paths.{site_at}
use Rattle.smk_plan_states.specs.Passes.{state_at}
use Rattle.smk_plan_states.specs.Waits.{ready_told, waits_of, over_waits, part_waits, waits_told}
use Rattle.smk_laws_plan.proofs.CurrentLists.{In, find_in, some_inj, none_some, clash_of, or_first}
use Rattle.smk_laws_plan.proofs.CurrentPaths.{in_among, touch_overlaps, above_touch}
use Rattle.smk_laws_plan.proofs.CurrentApart.{JobsApart, makes_above, own_apart}
use Rattle.smk_laws_plan.proofs.CurrentChosen.{folders_paths}
use Rattle.smk_laws_plan.proofs.CurrentRecipes.{map_same}
use Rattle.smk_plan_states.proofs.Apart.{each_in, jobs_apart_from}
use Rattle.smk_plan_states.proofs.Meaning.{directory_whole}
use Rattle.smk_plan_states.proofs.Told.{IsReadOf, IsTold, told_below, told_some, read_of}

-- ## Makers by number

pub job_there : (js : List Job) (n : ℕ) (j : Job) → job_at js n ≡ Some j → In j js
job_there [] n j e = absurd (none_some None j refl e)
job_there (k ∷ js) zero j e = inl (sym (some_inj k j e))
job_there (k ∷ js) (suc n) j e = inr (job_there js n j e)

-- the job of the number makes it, with its state
at_number :
    (js : List Job) (ss : List State) (n : ℕ) (j : Job) (q : Path) → JobsApart js → job_at js n ≡ Some j → makes j q ≡ true →
    (pair : State → Job × State) → ((s : State) → pair s ≡ (j, s)) →
    find (λ (e : Job × State). makes e.0 q) (zip js ss) ≡ option_map pair (slice_get ss n)
at_number [] ss n j q apart e m pair is = absurd (none_some None j refl e)
at_number (k ∷ js) [] n j q apart e m pair is = refl
at_number (k ∷ js) (s ∷ ss) zero j q apart e m pair is =
    ap (λ b. cond b (Some (k, s)) (find (λ (e : Job × State). makes e.0 q) (zip js ss))) (ap (λ (x : Job). makes x q) (some_inj k j e) ∙ m)
    ∙ ap Some ((λ i. (some_inj k j e i, s)) ∙ sym (is s))
at_number (k ∷ js) (s ∷ ss) (suc n) j q apart e m pair is = go (makes k q) refl (at_number js ss n j q apart.2 e m pair is)
  where
    go : (b : Bool) → makes k q ≡ b → find (λ (e : Job × State). makes e.0 q) (zip js ss) ≡ option_map pair (slice_get ss n) → cond b (Some (k, s)) (find (λ (e : Job × State). makes e.0 q) (zip js ss)) ≡ option_map pair (slice_get ss n)
    go false f ih = ih
    go true f ih =
        let a = makes_above k q f in
        let b = makes_above j q m in
        absurd (clash_of (overlaps b.0 a.0) (touch_overlaps b.0 a.0 (above_touch q b.0 a.0 b.2 a.2)) (apart.0 j a.0 b.0 (job_there js n j e) a.1 b.1))

-- the job that is found doesn't depend on the states
first_found :
    (js : List Job) (ss : List State) (q : Path) → length ss ≡ length js →
    option_map (λ (e : Job × State). e.0) (find (λ (e : Job × State). makes e.0 q) (zip js ss)) ≡ find (λ j. makes j q) js
first_found [] ss q e = refl
first_found (j ∷ js) [] q e = absurd (omega arith)
first_found (j ∷ js) (s ∷ ss) q e = go (makes j q) (first_found js ss q (omega arith))
  where
    go : (b : Bool) → option_map (λ (e : Job × State). e.0) (find (λ (e : Job × State). makes e.0 q) (zip js ss)) ≡ find (λ j. makes j q) js → option_map (λ (e : Job × State). e.0) (cond b (Some (j, s)) (find (λ (e : Job × State). makes e.0 q) (zip js ss))) ≡ cond b (Some j) (find (λ j. makes j q) js)
    go true ih = refl
    go false ih = ih

none_first : (o : Option (Job × State)) → option_map (λ (e : Job × State). e.0) o ≡ None → o ≡ None
none_first None e = refl
none_first (Some x) e = absurd (none_some None x.0 refl (sym e))

module _
    (image : Image) (settings : Settings) (progress : Progress) (J : Jobs) (asked : List Path) (ss : List State) (each : length ss ≡ length J.jobs) (served : AreServed J asked) where
  abbrev P : Plan
  P = with_states J ss

  abbrev by : Path → Option Job
  by q = find (λ j. makes j q) J.jobs

  apart : JobsApart J.jobs
  apart = jobs_apart_from J.jobs served.apart

  abbrev ready : Path → Bool
  ready d = is_ready image settings progress P d

  directory_now : (q : Path) → directory_over P q ≡ none_or_one (option_and_then (λ (j : Job). folder_over j.recipe q) (by q))
  directory_now q = go (maker_of P q) ∙ ap (λ o. none_or_one (option_and_then (λ (j : Job). folder_over j.recipe q) o)) (first_found J.jobs ss q each)
    where
      end : (o : Option Path) → none_or_one o ++ [] ≡ none_or_one o
      end None = refl
      end (Some f) = refl

      go : (o : Option (Job × State)) → flat_map (λ (e : Job × State). none_or_one (folder_over e.0.recipe q)) (none_or_one o) ≡ none_or_one (option_and_then (λ (j : Job). folder_over j.recipe q) (option_map (λ (e : Job × State). e.0) o))
      go None = refl
      go (Some e) = end (folder_over e.0.recipe q)

  -- what the job of the number makes is ready where the job is Clean and it is whole
  ready_at : (q : Path) (number : Option ℕ) (j : Job) → option_and_then (job_at J.jobs) number ≡ Some j → makes j q ≡ true → ready q ≡ (test_some is_clean (state_at ss number) && stands_whole image q j)
  ready_at q None j e m = absurd (none_some None j refl e)
  ready_at q (Some n) j e m =
      let pair : State → Job × State = λ s. (j, s) in
      ap (test_some (λ (e : Job × State). is_clean e.1 && stands_whole image q e.0)) (at_number J.jobs ss n j q apart e m pair (λ s. refl))
      ∙ go (slice_get ss n)
    where
      pair : State → Job × State
      pair s = (j, s)

      go : (o : Option State) → test_some (λ (e : Job × State). is_clean e.1 && stands_whole image q e.0) (option_map pair o) ≡ (test_some is_clean o && stands_whole image q j)
      go None = refl
      go (Some s) = refl

  ready_told_is : (q : Path) (s : Site) → IsTold image J q s → ready_told ss (site_at image J q) ≡ ready q
  ready_told_is q s t = ap (ready_told ss) t.found ∙ ap (λ w. test_some is_clean (state_at ss s.job) && w) t.whole ∙ go (by q) refl
    where
      go : (o : Option Job) → by q ≡ o → (test_some is_clean (state_at ss s.job) && test_some (stands_whole image q) o) ≡ ready q
      go None e =
          and-false (test_some is_clean (state_at ss s.job))
          ∙ sym (ap (test_some (λ (e : Job × State). is_clean e.1 && stands_whole image q e.0)) (none_first (maker_of P q) (first_found J.jobs ss q each ∙ e)))
      go (Some j) e = sym (ready_at q s.job j (sym t.maker ∙ e) (find_in (λ j. makes j q) J.jobs j e).1)

  over_told_is : (q : Path) (s : Site) → IsTold image J q s → over_waits ss (site_at image J q) ≡ waits_of ready (directory_over P q)
  over_told_is q s t =
      ap (over_waits ss) t.found
      ∙ ap (λ o. none_or_one (option_map (λ (d : Directory). to_wait d) o)) t.over
      ∙ job (by q) refl
      ∙ ap (waits_of ready) (sym (directory_now q))
    where
      to_wait : Directory → Wait
      to_wait d = record { path = d.path; ready = test_some is_clean (state_at ss s.job) && d.whole }

      folder : (j : Job) → by q ≡ Some j → (p : Option Path) → folder_over j.recipe q ≡ p → none_or_one (option_map (λ (d : Directory). to_wait d) (option_map (directory_at image) p)) ≡ waits_of ready (none_or_one p)
      folder j e None f = refl
      folder j e (Some d) f =
          let r = find_in (λ j. makes j q) J.jobs j e in
          let own : makes j d ≡ true = or_first (among (out_paths j.recipe) d) (is_some (folder_over j.recipe d)) (in_among (out_paths j.recipe) d (folders_paths j.recipe d (find_in (is_under q) (folders_of j.recipe) d f).0)) in
          let is = ready_at d s.job j (sym t.maker ∙ e) own ∙ ap (λ w. test_some is_clean (state_at ss s.job) && w) (directory_whole j (own_apart J.jobs j apart r.0) image q d f) in
          λ i. record { path = d; ready = sym is i } ∷ []

      job : (o : Option Job) → by q ≡ o → none_or_one (option_map (λ (d : Directory). to_wait d) (over_of image q o)) ≡ waits_of ready (none_or_one (option_and_then (λ (j : Job). folder_over j.recipe q) o))
      job None e = refl
      job (Some j) e = folder j e (folder_over j.recipe q) refl

  waits_append : (xs ys : List Path) → waits_of ready (xs ++ ys) ≡ waits_of ready xs ++ waits_of ready ys
  waits_append [] ys = refl
  waits_append (x ∷ xs) ys = ap (λ ws. record { path = x; ready = ready x } ∷ ws) (waits_append xs ys)

  waits_flat : {A : Type 0} (f : A → List Wait) (g : A → List Path) (xs : List A) → ((x : A) → In x xs → f x ≡ waits_of ready (g x)) → flat_map f xs ≡ waits_of ready (flat_map g xs)
  waits_flat f g [] h = refl
  waits_flat f g (x ∷ xs) h =
      (λ i. h x (inl refl) i ++ waits_flat f g xs (λ y k. h y (inr k)) i) ∙ sym (waits_append (g x) (flat_map g xs))

  flat_parts : (f : Parts → List Wait) (js : List Job) → flat_map f (map (parts_of image) js) ≡ flat_map (λ j. f (parts_of image j)) js
  flat_parts f [] = refl
  flat_parts f (j ∷ js) = ap (λ ws. f (parts_of image j) ++ ws) (flat_parts f js)

  -- the directories that are awaited, each with whether it is ready
  pub waits_are :
      settings.targets ≡ asked →
      waits_told ss (site_at image J) (map (parts_of image) J.jobs) asked
      ≡ waits_of ready (flat_map (awaits P) J.jobs ++ flat_map (directory_over P) settings.targets)
  waits_are targets =
      (λ i. jobs_wait i ++ (targets_wait ∙ ap (λ ts. waits_of ready (flat_map (directory_over P) ts)) (sym targets)) i)
      ∙ sym (waits_append (flat_map (awaits P) J.jobs) (flat_map (directory_over P) settings.targets))
    where
      one : (j : Job) → In j J.jobs → part_waits ss (site_at image J) (parts_of image j) ≡ waits_of ready (awaits P j)
      one j i =
          let reads = in_paths j.recipe ++ gathers_from j in
          let r = read_of J 0 J.jobs j served.reads i in
          let told = λ (q : Path) (k : In q reads). told_below image J r.0 q (each_in (IsReadOf J r.0) reads q r.1 k) in
          let over = waits_flat (λ q. over_waits ss (site_at image J q)) (directory_over P) reads (λ q k. let s = told q k in over_told_is q s.0 s.1) in
          let own : waits_of (λ d. ready_told ss (site_at image J d)) (gathers_from j) ≡ waits_of ready (gathers_from j) =
          map_same _ _ (gathers_from j) (λ d k. let s = told d (Rattle.smk_laws_plan.proofs.CurrentLists.in_right d (in_paths j.recipe) (gathers_from j) k) in let e = ready_told_is d s.0 s.1 in λ i. record { path = d; ready = e i }) in
          (λ i. own i ++ over i) ∙ sym (waits_append (gathers_from j) (flat_map (directory_over P) reads))

      jobs_wait : flat_map (part_waits ss (site_at image J)) (map (parts_of image) J.jobs) ≡ waits_of ready (flat_map (awaits P) J.jobs)
      jobs_wait = flat_parts (part_waits ss (site_at image J)) J.jobs ∙ waits_flat (λ j. part_waits ss (site_at image J) (parts_of image j)) (awaits P) J.jobs one

      targets_wait : flat_map (λ q. over_waits ss (site_at image J q)) asked ≡ waits_of ready (flat_map (directory_over P) asked)
      targets_wait =
          waits_flat (λ q. over_waits ss (site_at image J q)) (directory_over P) asked
          (λ t k. let s = told_some image J t (each_in (IsToldOf J) asked t served.targets k) in over_told_is t s.0 s.1)

  pub targets_are : map (λ t. ready_told ss (site_at image J t)) asked ≡ map ready asked
  targets_are =
      map_same (λ t. ready_told ss (site_at image J t)) ready asked
      (λ t k. let s = told_some image J t (each_in (IsToldOf J) asked t served.targets k) in ready_told_is t s.0 s.1)
