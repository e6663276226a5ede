-- Of the jobs of a plan one alone begins with a call of its own, and what it makes isn't spent.
use Rattle.std.proofs.Common.{◌≡◌, Bool, true, false, ◌&&◌, ◌||◌, not, List, [], ◌∷◌, filter, flat_map, zip, refl, sym, ap, subst, ◌∙◌, inl, inr, true≢false}
use Rattle.std.specs.Prelude.{bytes_eq}
use Rattle.std.specs.List.{list_any}
use Rattle.smk_base.specs.Path.{is_at_or_under, overlaps}
use Rattle.smk_base.proofs.Places.{place_itself, same_place}
use Rattle.smk_base.proofs.Under.{at_itself, overlaps_at}
use Rattle.smk_world.specs.World.{out_paths}
use Rattle.smk_world.specs.Trees.{Path, among, first}
use Rattle.smk_pattern.specs.Reading.{or_empty}
use Rattle.smk_flow.specs.declared.job.Job.{Job}
use Rattle.smk_flow.specs.Flows.{Flow}
use Rattle.smk_store.specs.Images.{Image}
use Rattle.smk_chain.specs.Derive.{distinct, job, same_candidate, sources_of, walk}
use Rattle.smk_trigger.specs.declared.reason.State.{State}
use Rattle.smk_trigger.specs.declared.reason.State.TheVariants.{Open, Dirty, Restore, Clean}
use Rattle.smk_trigger.specs.JobStates.{is_clean, is_to_run}
use Rattle.smk_pick.specs.declared.settings.Settings.{Settings}
use Rattle.smk_plan.specs.States.{IsPlan, Plan, Progress, is_spent, job_path, makes_awaited, staged, state_of}
use Rattle.smk_laws_plan.specs.Current.{IsComplete}
use Rattle.smk_laws_plan.proofs.CurrentLists.{In, and_left, distinct_in, flat_in, map_in, zip_first, zip_in}
use Rattle.smk_laws_plan.proofs.CurrentApart.{JobsApart, makes_above}
use Rattle.smk_laws_plan.proofs.CurrentPaths.{among_in}
use Rattle.smk_laws_plan.proofs.CurrentWalked.{walked_chosen}
use Rattle.smk_laws_plan.proofs.PlanOne.{chosen_makes, derived, derived_apart}
use Rattle.smk_cli_target.proofs.PlanPlaces.{temp_is_out}

first_in : (ps : List Path) (o : Path) → In o ps → In (or_empty (first ps)) ps
first_in [] o i = absurd i
first_in (p ∷ ps) o i = inl refl

clash : (b : Bool) → b ≡ true → b ≡ false → ⊥
clash b h k = true≢false (sym h ∙ k)

-- what is at one path overlaps
one_overlaps : (p q : Path) → p ≡ q → overlaps p q ≡ true
one_overlaps p q same = overlaps_at p q (subst (λ x. is_at_or_under p x ≡ true) same (at_itself p))

-- ## Lists

filter_none : {A : Type 0} (f : A → Bool) (xs : List A) → ((x : A) → In x xs → f x ≡ false) → filter f xs ≡ []
filter_none f [] h = refl
filter_none f (x ∷ xs) h = rw (h x (inl refl)) (filter_none f xs (λ y i. h y (inr i)))

any_none : {A : Type 0} (f : A → Bool) (xs : List A) → ((x : A) → In x xs → f x ≡ false) → list_any f xs ≡ false
any_none f [] h = refl
any_none f (x ∷ xs) h = ap (λ b. b || list_any f xs) (h x (inl refl)) ∙ any_none f xs (λ y i. h y (inr i))

-- jobs that share an output are one
shared_output : (js : List Job) (j k : Job) (o : Path) → JobsApart js → In j js → In k js → In o (out_paths j.recipe) → In o (out_paths k.recipe) → k ≡ j
shared_output [] j k o apart ij ik oj ok = absurd ij
shared_output (x ∷ js) j k o apart (inl a) (inl b) oj ok = b ∙ sym a
shared_output (x ∷ js) j k o apart (inl a) (inr ik) oj ok =
    absurd (clash (overlaps o o) (one_overlaps o o refl) (apart.0 k o o ik (subst (λ (z : Job). In o (out_paths z.recipe)) a oj) ok))
shared_output (x ∷ js) j k o apart (inr ij) (inl b) oj ok =
    absurd (clash (overlaps o o) (one_overlaps o o refl) (apart.0 j o o ij (subst (λ (z : Job). In o (out_paths z.recipe)) b ok) oj))
shared_output (x ∷ js) j k o apart (inr ij) (inr ik) oj ok = shared_output js j k o apart.2 ij ik oj ok

module _ (test : Job → Bool) where
  -- Of jobs with a state one alone passes, if those of other names don't.
  passes_alone :
      (js : List Job) (ss : List State) (e : Job × State) → JobsApart js → ((k : Job) → In k js → In (job_path k) (out_paths k.recipe)) → In e (zip js ss) → test e.0 ≡ true →
      ((k : Job) → In k js → (job_path k ≡ job_path e.0 → ⊥) → test k ≡ false) → filter (λ (k : Job × State). test k.0) (zip js ss) ≡ e ∷ []
  passes_alone [] ss e apart named i passes others = absurd i
  passes_alone (x ∷ js) [] e apart named i passes others = absurd i
  passes_alone (x ∷ js) (s ∷ ss) e apart named (inl here) passes others =
      let is_job : e.0 ≡ x = ap (λ (k : Job × State). k.0) here in
      let none : filter (λ (k : Job × State). test k.0) (zip js ss) ≡ [] =
      filter_none (λ (k : Job × State). test k.0) (zip js ss)
      (λ k ik. others k.0 (inr (zip_first js ss k.0 k.1 ik))
      (λ same. clash (overlaps (job_path k.0) (job_path x)) (one_overlaps (job_path k.0) (job_path x) (same ∙ ap job_path is_job))
      (apart.0 k.0 (job_path x) (job_path k.0) (zip_first js ss k.0 k.1 ik) (named x (inl refl)) (named k.0 (inr (zip_first js ss k.0 k.1 ik)))))) in
      let first_passes : test x ≡ true = sym (ap test is_job) ∙ passes in
      rw first_passes (λ n. sym here n ∷ none n)
  passes_alone (x ∷ js) (s ∷ ss) e apart named (inr later) passes others =
      let fails : test x ≡ false =
      others x (inl refl)
      (λ same. clash (overlaps (job_path e.0) (job_path x)) (one_overlaps (job_path e.0) (job_path x) (sym same))
      (apart.0 e.0 (job_path x) (job_path e.0) (zip_first js ss e.0 e.1 later) (named x (inl refl)) (named e.0 (inr (zip_first js ss e.0 e.1 later))))) in
      rw fails (passes_alone js ss e apart.2 (λ k ik. named k (inr ik)) later passes (λ k ik. others k (inr ik)))

-- ## The jobs of a plan

to_run_unclean : (s : State) → is_to_run s ≡ true → is_clean s ≡ false
to_run_unclean Open h = refl
to_run_unclean (Dirty reasons) h = refl
to_run_unclean Restore h = refl
to_run_unclean Clean h = absurd (true≢false (sym h))

module _ (flow : Flow) (image : Image) (settings : Settings) (progress : Progress) (plan : Plan) (complete : IsComplete image) (is : IsPlan flow image settings progress plan) where
  -- each is named by an output
  pub is_named : (k : Job) → In k plan.jobs → In (job_path k) (out_paths k.recipe)
  is_named k ik =
      let srcs = sources_of image in
      let walked = flat_map (walk flow srcs plan.lists 200) settings.targets in
      let c = map_in (job flow plan.lists) (distinct same_candidate walked) k (subst (In k) (sym (derived flow image plan.lists settings.targets plan.jobs complete is.derived).1) ik) in
      let t = flat_in (walk flow srcs plan.lists 200) settings.targets c.0 (distinct_in same_candidate walked c.0 c.1) in
      let q = walked_chosen flow srcs plan.lists 200 t.0 c.0 t.2 in
      let made = chosen_makes flow image plan.lists settings.targets plan.jobs complete is.derived q.0 c.0 q.1 in
      let o = makes_above (job flow plan.lists c.0) q.0 made in
      subst (λ (x : Job). In (job_path x) (out_paths x.recipe)) (sym c.2) (first_in (out_paths (job flow plan.lists c.0).recipe) o.0 o.1)

  apart : JobsApart plan.jobs
  apart = derived_apart flow image plan.lists settings.targets plan.jobs complete is.derived

  -- two of one name are one
  pub one_named : (j k : Job) → In j plan.jobs → In k plan.jobs → job_path j ≡ job_path k → k ≡ j
  one_named j k ij ik same =
      shared_output plan.jobs j k (job_path j) apart ij ik (is_named j ij) (subst (λ p. In p (out_paths k.recipe)) (sym same) (is_named k ik))

  pub alone : (test : Job → Bool) (e : Job × State) → In e (staged plan) → test e.0 ≡ true → ((k : Job) → In k plan.jobs → (job_path k ≡ job_path e.0 → ⊥) → test k ≡ false)
      → filter (λ (k : Job × State). test k.0) (staged plan) ≡ e ∷ []
  alone test e i passes others = passes_alone test plan.jobs plan.states e apart is_named i passes others

  -- nor does any where that one doesn't
  pub none_passes : (test : Job → Bool) (e : Job × State) → In e (staged plan) → test e.0 ≡ false → ((k : Job) → In k plan.jobs → (job_path k ≡ job_path e.0 → ⊥) → test k ≡ false)
      → filter (λ (k : Job × State). test k.0) (staged plan) ≡ []
  none_passes test e i fails others = filter_none (λ (k : Job × State). test k.0) (staged plan) (λ k ik. one k ik (bytes_eq (job_path k.0) (job_path e.0)) refl)
    where
      one : (k : Job × State) → In k (staged plan) → (b : Bool) → bytes_eq (job_path k.0) (job_path e.0) ≡ b → test k.0 ≡ false
      one k ik true same =
          let is_it : k.0 ≡ e.0 =
          one_named e.0 k.0 (zip_first plan.jobs plan.states e.0 e.1 i) (zip_first plan.jobs plan.states k.0 k.1 ik) (sym (same_place (job_path k.0) (job_path e.0) same)) in
          ap test is_it ∙ fails
      one k ik false differs =
          others k.0 (zip_first plan.jobs plan.states k.0 k.1 ik)
          (λ same. clash (bytes_eq (job_path k.0) (job_path e.0)) (subst (λ p. bytes_eq (job_path k.0) p ≡ true) same (place_itself (job_path k.0))) differs)

  -- an output of a job that is to run isn't spent
  pub unspent :
      (here : Image) (done : Progress) (e : Job × State) (q : Path) → In e (staged plan) → is_to_run e.1 ≡ true → In q (out_paths e.0.recipe) →
      list_any (λ (k : Job × State). is_spent here settings done plan k q) (staged plan) ≡ false
  unspent here done e q i to_run out = any_none (λ (k : Job × State). is_spent here settings done plan k q) (staged plan) one
    where
      state : (k : Job × State) → In k (staged plan) → k.1 ≡ state_of image settings progress plan k.0
      state k ik = (zip_in (state_of image settings progress plan) plan.jobs k (subst (λ ss. In k (zip plan.jobs ss)) is.states ik)).1

      three : (a b c d : Bool) → (a ≡ true → c ≡ false) → (a && (b && (c && d))) ≡ false
      three false b c d h = refl
      three true false c d h = refl
      three true true c d h = ap (λ x. x && d) (h refl)

      one : (k : Job × State) → In k (staged plan) → is_spent here settings done plan k q ≡ false
      one k ik =
          three _ _ (is_clean k.1) _
          (λ temporary.
          let temp = among_in k.0.temps q (and_left (among k.0.temps q) (not (makes_awaited here settings done plan k.0)) temporary) in
          let k_planned = zip_first plan.jobs plan.states k.0 k.1 ik in
          let e_planned = zip_first plan.jobs plan.states e.0 e.1 i in
          let made = temp_is_out flow image plan.lists settings.targets plan.jobs complete is.derived k.0 q k_planned temp in
          let same = shared_output plan.jobs e.0 k.0 q apart e_planned k_planned out made in
          ap is_clean (state k ik ∙ (ap (state_of image settings progress plan) same ∙ sym (state e i))) ∙ to_run_unclean e.1 to_run)
