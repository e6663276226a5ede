-- What a plan takes for outputs of running Restores are such in the protocol.
use Rattle.std.proofs.Common.{◌≡◌, ◌≢◌, ◌⊎◌, inl, inr, true, ◌&&◌, List, [], ◌∷◌, filter, find, refl, sym, ap, subst, ◌∙◌, Option, Some, None, true≢false, IsTrue}
use Rattle.std.specs.Prelude.{bytes_eq, option_map, IsSome}
use lib.Pointwise.{pointwise}
use Rattle.std.proofs.lemmas.Option.{same_Some}
use Rattle.smk_base.proofs.Places.{same_place}
use Rattle.smk_world.specs.declared.event.Child.{Child}
use Rattle.smk_world.specs.declared.recipe.Recipe.{Recipe}
use Rattle.smk_world.specs.World.{World, out_paths}
use Rattle.smk_world.specs.Trees.{Act, IsIn, Path, among, first, is_path_text}
use Rattle.smk_pattern.specs.Reading.{or_empty}
use Rattle.smk_record.specs.declared.record.Record.{Record}
use Rattle.smk_flow.specs.declared.job.Job.{Job}
use Rattle.smk_store.specs.Images.{Image, core_at}
use Rattle.smk_store.specs.Soundness.{Outside}
use Rattle.smk_store.specs.Trust.{Versions}
use Rattle.smk_trigger.specs.declared.reason.State.{State}
use Rattle.smk_trigger.specs.JobStates.{is_restore}
use Rattle.smk_plan.specs.States.{Plan, Progress, is_restored, job_path, kept_state, makes, test_some}
use Rattle.smk_job.specs.Jobs.{Underway}
use Rattle.smk_laws_protocol.specs.Protocol.{IsEased, OpenJob, RunState, Running, eased, kept_at, own, record_of}
use Rattle.smk_laws_protocol.specs.Midway.{Fits, InPhase, Midway}
use Rattle.smk_laws_protocol.proofs.Basics.{each_in, in_filter, some_of}
use Rattle.smk_laws_plan.specs.Current.{eased_by}
use Rattle.smk_laws_plan.proofs.CurrentLists.{and_left, and_right, find_in, in_left, map_in, or_first}
use Rattle.smk_laws_plan.proofs.CurrentPaths.{among_in, in_among}
use Rattle.smk_laws_plan.proofs.CurrentProducts.{Planned}
use Rattle.smk_laws_plan.proofs.PlanOne.{pair_first}
use Rattle.smk_drive.specs.Moments.{Begun, Rules, is_child_of, progress_of, runs, seen}
use Rattle.smk_drive_course.specs.Stands.{Stand}
use Rattle.smk_laws_moments.specs.Opened.{AreStillPlanned, IsOpen, IsPlannedStill, IsStateOf, opened}
use Rattle.smk_laws_moments.specs.Courses.{HasChildren, child_of}
use Rattle.smk_laws_moments.proofs.Inputs.{maker_is, state_in}

-- of jobs of one name just one has begun
abbrev pub IsOnce : Stand → Type 0
IsOnce s = (a b : Begun) → IsIn s.begun a → IsIn s.begun b → job_path a.job ≡ job_path b.job → a ≡ b

some_is : {A : Type 0} (o : Option A) → IsSome o → (x : A) × (o ≡ Some x)
some_is None h = absurd (true≢false (sym h))
some_is (Some x) h = (x, refl)

-- the same paths have the same first one
same_first : (ps qs : List Path) → pointwise bytes_eq ps qs ≡ true → or_empty (first ps) ≡ or_empty (first qs)
same_first [] [] h = refl
same_first [] (q ∷ qs) h = absurd (true≢false (sym h))
same_first (p ∷ ps) [] h = absurd (true≢false (sym h))
same_first (p ∷ ps) (q ∷ qs) h = same_place p q (and_left (bytes_eq p q) (pointwise bytes_eq ps qs) h)

module _
    (act : Act) (rules : Rules) (entry w : World) (H : Versions) (s : Stand) (state : RunState) (plan : Plan)
    (midway : Midway (record { read = rules.read; act = act }) entry H state w) (is : IsStateOf rules entry s state) (still : AreStillPlanned s)
    (children : HasChildren s w) (once : IsOnce s) (in_force : s.plan ≡ Some plan)
    (planned : Planned rules.flow (seen rules w) rules.settings (progress_of w s.begun) plan) where
  abbrev o : Outside
  o = record { read = rules.read; act = act }

  abbrev image : Image
  image = seen rules w

  abbrev progress : Progress
  progress = progress_of w s.begun

  -- The job of the plan is that of a child that runs, and began in this state.
  pub record IsGoing (k : Job) (began : State) : Type 0 where
    pub going : Underway
    pub running : IsIn s.runs going
    pub opens : IsOpen s state.jobs going
    pub planned_still : IsPlannedStill s plan going
    pub job : k ≡ planned_still.job
    pub began_so : opens.begun.state ≡ began

  -- a Restore of the plan runs, and has found records
  record IsFinding (k : Job) : Type 0 where
    going : Underway
    running : IsIn s.runs going
    opens : IsOpen s state.jobs going
    finds : opens.kept ≢ []
    recipe : k.recipe ≡ going.recipe

  same_jobs : (k j : Job) (p : Path) → IsIn plan.jobs k → IsIn plan.jobs j → IsIn (out_paths k.recipe) p → IsIn (out_paths j.recipe) p → k ≡ j
  same_jobs k j p ik ij ip jp =
      pair_first (k, state_in rules.flow act image rules.settings progress plan planned k) (j, state_in rules.flow act image rules.settings progress plan planned j)
      (sym (maker_is rules.flow act image rules.settings progress plan planned k p ik (made k p ip))
      ∙ maker_is rules.flow act image rules.settings progress plan planned j p ij (made j p jp))
    where
      made : (x : Job) (p : Path) → IsIn (out_paths x.recipe) p → makes x p ≡ true
      made x p i = or_first (among (out_paths x.recipe) p) _ (in_among (out_paths x.recipe) p i)

  has_some : (g : Underway) → out_paths g.recipe ≢ [] → (j : Job) → j.recipe ≡ g.recipe → out_paths j.recipe ≢ []
  has_some g some j same = λ none. some (ap out_paths (sym same) ∙ none)

  some_first : (j : Job) → out_paths j.recipe ≢ [] → IsIn (out_paths j.recipe) (job_path j)
  some_first j some = by (out_paths j.recipe) some
    where
      by : (ps : List Path) → ps ≢ [] → IsIn ps (or_empty (first ps))
      by [] none = absurd (none refl)
      by (p ∷ ps) none = inl refl

  -- an output is a path
  no_output : (g : Underway) → IsOpen s state.jobs g → IsIn (out_paths g.recipe) [] → ⊥
  no_output g opens i =
      let j : OpenJob = opened g opens.kept (Running g.number) in
      let fits = each_in (Fits o entry (eased state) state.top w) state.jobs j midway.fits opens.is_open in
      true≢false (sym (each_in (λ p. IsTrue (is_path_text p)) (own j) [] fits.paths (in_left [] (out_paths g.recipe) g.logs i)))

  -- A job of the plan that has kept its state is one of a child that runs.
  pub is_going : (k : Job) (began : State) → IsIn plan.jobs k → kept_state image rules.settings progress plan k ≡ Some began → IsGoing k began
  is_going k began ik h = go (find (λ (e : Path × State). bytes_eq e.0 (job_path k)) progress.running) refl h
    where
      of_child : (b : Begun) (g : Underway) → IsIn s.begun b → IsIn s.runs g → job_path k ≡ job_path b.job → b.state ≡ began →
          pointwise bytes_eq (out_paths g.recipe) (out_paths b.job.recipe) ≡ true → IsGoing k began
      of_child b g ib ig named state_is same =
          let opens = each_in (IsOpen s state.jobs) s.runs g is.running ig in
          let pj = each_in (IsPlannedStill s plan) s.runs g (still plan in_force) ig in
          let one : b ≡ opens.begun = once b opens.begun ib opens.has_begun
          (sym (same_first (out_paths g.recipe) (out_paths b.job.recipe) same) ∙ ap (λ (r : Recipe). or_empty (first (out_paths r))) (sym opens.recipe)) in
          let path : job_path k ≡ job_path pj.job =
          named ∙ (sym (same_first (out_paths g.recipe) (out_paths b.job.recipe) same) ∙ ap (λ (r : Recipe). or_empty (first (out_paths r))) (sym pj.recipe)) in
          let there : IsIn (out_paths pj.job.recipe) (job_path k) =
          subst (IsIn (out_paths pj.job.recipe)) (sym path) (some_first pj.job (has_some g opens.makes pj.job pj.recipe)) in
          record {
            going = g;
            running = ig;
            opens = opens;
            planned_still = pj;
            job = same_jobs k pj.job (job_path k) ik pj.planned (its_first (out_paths k.recipe) refl g opens pj.job pj.recipe there) there;
            began_so = ap (λ (x : Begun). x.state) (sym one) ∙ state_is;
          }
        where
          its_first :
              (ps : List Path) → out_paths k.recipe ≡ ps → (g : Underway) → IsOpen s state.jobs g → (j : Job) → j.recipe ≡ g.recipe →
              IsIn (out_paths j.recipe) (job_path k) → IsIn (out_paths k.recipe) (job_path k)
          its_first [] e g opens j recipe i =
              absurd (no_output g opens (subst (λ (r : Recipe). IsIn (out_paths r) []) recipe (subst (λ qs. IsIn (out_paths j.recipe) (or_empty (first qs))) e i)))
          its_first (p ∷ ps) e g opens j recipe i = some_first k (λ none. not_empty p ps (sym e ∙ none))
            where
              not_empty : (p : Path) (ps : List Path) → p ∷ ps ≡ [] → ⊥
              not_empty p ps h = cc

      go : (x : Option (Path × State)) → find (λ (e : Path × State). bytes_eq e.0 (job_path k)) progress.running ≡ x →
          option_map (λ (e : Path × State). e.1) x ≡ Some began → IsGoing k began
      go None e h = absurd (none_began h)
        where
          none_began : ◌≡◌ {A = Option State} None (Some began) → ⊥
          none_began x = cc
      go (Some x) e h =
          let found = find_in (λ (e : Path × State). bytes_eq e.0 (job_path k)) progress.running x e in
          let m = map_in (λ (b : Begun). (job_path b.job, b.state)) (filter (λ (b : Begun). runs w b.job) s.begun) x found.0 in
          let b = m.0 in
          let f = in_filter (λ (b : Begun). runs w b.job) s.begun b m.1 in
          let c = some_of (is_child_of b.job) w.children f.1 in
          let g = map_in child_of s.runs c.0 (subst (λ cs. IsIn cs c.0) children c.1) in
          let named : job_path k ≡ job_path b.job = sym (same_place x.0 (job_path k) found.1) ∙ ap (λ (y : Path × State). y.0) m.2 in
          let state_is : b.state ≡ began = ap (λ (y : Path × State). y.1) (sym m.2) ∙ same_Some x.1 began h in
          of_child b g.0 f.0 g.1 named state_is (subst (λ (y : Child). is_child_of b.job y ≡ true) g.2 c.2)

  finding : (k : Job) → IsIn plan.jobs k → test_some is_restore (kept_state image rules.settings progress plan k) ≡ true → IsFinding k
  finding k ik h = go (kept_state image rules.settings progress plan k) refl h
    where
      go : (x : Option State) → kept_state image rules.settings progress plan k ≡ x → test_some is_restore x ≡ true → IsFinding k
      go None e t = absurd (true≢false (sym t))
      go (Some began) e t =
          let g = is_going k began ik e in
          record {
            going = g.going;
            running = g.running;
            opens = g.opens;
            finds = g.opens.restored (ap is_restore g.began_so ∙ t);
            recipe = ap (λ (x : Job). x.recipe) g.job ∙ g.planned_still.recipe;
          }

  -- the record at an output of it is the one that was found, or the one that is written in its place
  eased_at : (k : Job) (p : Path) (r : Record) → IsFinding k → IsIn (out_paths k.recipe) p → core_at image p ≡ Some r → eased state p r
  eased_at k p r f ip at =
      let j : OpenJob = opened f.going f.opens.kept (Running f.going.number) in
      let i = f.opens.is_open in
      let fits = each_in (Fits o entry (eased state) state.top w) state.jobs j midway.fits i in
      let phase = each_in (InPhase o w) state.jobs j midway.phases i in
      let ours : IsIn (out_paths f.going.recipe) p = subst (λ (x : Recipe). IsIn (out_paths x) p) f.recipe ip in
      let found = some_is (kept_at f.opens.kept p) (fits.kept_all f.finds p ours) in
      (j, i, refl, by j (found.0) found.1 (phase.kept refl p found.0 found.1))
    where
      by : (j : OpenJob) (found : Record) → kept_at j.kept p ≡ Some found → (core_at image p ≡ Some found) ⊎ (core_at image p ≡ Some (record_of j p)) → IsEased j p r
      by j found kept (inl e) = record { found = found; kept = kept; is = inl (same_Some r found (sym at ∙ e)) }
      by j found kept (inr e) = record { found = found; kept = kept; is = inr (same_Some r (record_of j p) (sym at ∙ e)) }

  pub eased_so : (p : Path) (r : Record) → eased_by image (is_restored image rules.settings progress plan) p r → eased state p r
  eased_so p r (left, at) =
      let k = some_of (λ (j : Job). test_some is_restore (kept_state image rules.settings progress plan j) && among (out_paths j.recipe) p) plan.jobs left in
      let ip = among_in (out_paths (k.0).recipe) p (and_right _ (among (out_paths (k.0).recipe) p) k.2) in
      eased_at k.0 p r (finding k.0 k.1 (and_left (test_some is_restore (kept_state image rules.settings progress plan k.0)) _ k.2)) ip at
