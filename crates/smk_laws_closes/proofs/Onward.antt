-- What is kept once the plan was told of the end of a job is such that the plan can grow from there.
use Rattle.std.proofs.Common.{◌≡◌, ◌⊎◌, ℕ, Bool, true, false, not, List, [], ◌∷◌, ◌++◌, map, filter, refl, sym, ap, subst, ◌∙◌, inl, inr, nat_eq, eq-eqb, Some, None}
use Rattle.std.proofs.lemmas.Option.{same_Some}
use Rattle.std.specs.Prelude.{bytes_eq, if◌then◌else◌}
use Rattle.std.specs.List.{slice_get}
use lib.Pointwise.{pointwise}
use Rattle.smk_world.specs.declared.event.Event.{Event}
use Rattle.smk_world.specs.Calls.{HasOwners, owned_now}
use Rattle.smk_world.specs.Devices.{AreLooks}
use Rattle.smk_world.specs.Runs.{Follows}
use Rattle.smk_world.specs.Trees.{IsIn, Path, among}
use Rattle.smk_world.specs.World.{World, is_within, out_paths, run}
use Rattle.smk_flow.specs.declared.job.Job.{Job}
use Rattle.smk_store.specs.Images.{Image, is_source}
use Rattle.smk_chain.specs.declared.jobs.Jobs.{Jobs}
use Rattle.smk_chain.specs.Derive.{Derived, derivation}
use Rattle.smk_plan_facts.specs.Facts.{told_sources}
use Rattle.smk_plan_live.specs.declared.base.Base.{Base}
use Rattle.smk_plan_live.specs.Live.{LivePlan}
use Rattle.smk_plan_live.specs.declared.phase.Phase.TheVariants.{Closed as ClosedPhase}
use Rattle.smk_plan_live.specs.Lives.{IsAgreed, IsLive, progress_of}
use Rattle.smk_plan_live.proofs.Changed.{get_other}
use Rattle.smk_job.specs.Jobs.{Underway}
use Rattle.smk_drive.specs.Moments.{Begun, ending, seen}
use Rattle.smk_drive.specs.Moments as moments
use Rattle.smk_drive.specs.Refusals.{ComesTo, Here}
use Rattle.smk_drive_outcome.specs.declared.outcome.Outcome.{Outcome}
use Rattle.smk_drive_pick.specs.Picking.{AreAlike}
use Rattle.smk_drive_step.specs.declared.children.Child.{Child}
use Rattle.smk_drive_course.specs.Stands.{ended_if, is_job_of, lists}
use Rattle.smk_drive_course.specs.Steps.{HasGuarded, guards_of}
use Rattle.smk_laws_protocol.proofs.Basics.{in_filter, in_rest, in_split}
use Rattle.smk_laws_plan.proofs.CurrentLists.{map_in}
use Rattle.smk_laws_moments.specs.Staying.{IsListed}
use Rattle.smk_laws_turns.specs.Hubs.{AreChildrenOf, AreRunning, IsCrew, IsOurs, Parts}
use Rattle.smk_laws_turns.proofs.Crew.{crew_shrinks}
use Rattle.smk_laws_turns.specs.Resting.{IsTold}
use Rattle.smk_laws_turns.specs.Onward.{IsOnward}
use Rattle.smk_laws_closes.specs.Learning.{IsOutcomeIn, IsSamePlan, closed_base}
use Rattle.smk_laws_closes.proofs.Around.{other_outs, paths_themselves}
use Rattle.smk_laws_closes.proofs.Basis.{Closing, are_children, ended_world, in_going, left_children, recipe, wait, without}
use Rattle.smk_laws_closes.proofs.Bridged.{listed}
use Rattle.smk_laws_closes.proofs.Laws.{Laws}
use Rattle.smk_laws_closes.proofs.Tended.{at_rest, closed_for, guarded_world, looked, tended_children, tended_home, tended_world, world_is}
use Rattle.smk_laws_closes.proofs.Told.{agrees_now, progressed_now}

-- its job is the same
same_job : (image : Image) (going : Underway) (status : ℕ) (b : Begun) → (ended_if image going status b).job ≡ b.job
same_job image going status b = go (is_job_of going b)
  where
    go : (t : Bool) → (if t then (record b { ended = Some (ending image b.job status) }) else b).job ≡ b.job
    go true = refl
    go false = refl

in_map : {A B : Type 0} (f : A → B) (xs : List A) (y : A) → IsIn xs y → IsIn (map f xs) (f y)
in_map f [] y i = absurd i
in_map f (z ∷ xs) y (inl e) = inl (ap f e)
in_map f (z ∷ xs) y (inr i) = inr (in_map f xs y i)

module _ (x : Closing) where
  -- a child that is left was there
  pub was_left : (d : Child) → IsIn x.places (Some d) → IsIn x.h.places (Some d)
  was_left d i =
      subst (λ ps. IsIn ps (Some d)) (sym x.put.were_so)
      (in_rest x.put.before x.put.after (Some x.c) (Some d)
      (other (in_split x.put.before x.put.after None (Some d) (subst (λ ps. IsIn ps (Some d)) x.put.are_so i))))
    where
      never : Some d ≡ None → ⊥
      never h = cc

      other : (Some d ≡ None) ⊎ IsIn (x.put.before ++ x.put.after) (Some d) → IsIn (x.put.before ++ x.put.after) (Some d)
      other (inl e) = absurd (never e)
      other (inr k) = k

  pub left_crew : IsCrew x.places (filter (λ (r : Underway). not (nat_eq r.number x.c.going.number)) x.s.runs)
  left_crew = crew_shrinks x.h.places x.places x.s.runs x.c x.at.crew x.put

  -- it is of another job
  pub other_number : (d : Child) → IsIn x.places (Some d) → ¬ (d.job ≡ x.c.job)
  other_number d i same =
      let left = in_filter (λ (r : Underway). not (nat_eq r.number x.c.going.number)) x.s.runs d.going (left_crew.run d.going (in_going x.places d i)) in
      let theirs = x.at.theirs d (was_left d i) in
      let one : theirs.job ≡ x.job = same_Some theirs.job x.job (sym theirs.is ∙ (ap (slice_get x.h.live.base.jobs.jobs) same ∙ x.is)) in
      let outs : out_paths x.c.going.recipe ≡ out_paths d.going.recipe =
      ap out_paths (sym (recipe x) ∙ (ap (λ (j : Job). j.recipe) (sym one) ∙ theirs.recipe)) in
      never
      (sym (subst (λ ps. pointwise bytes_eq (out_paths x.c.going.recipe) ps ≡ true) outs (paths_themselves (out_paths x.c.going.recipe)))
      ∙ other_outs x.c.going x.s.runs (are_children x) d.going left.0 (λ n. apart d.going.number x.c.going.number n left.1))
    where
      never : true ≡ false → ⊥
      never h = cc

      apart : (m n : ℕ) → m ≡ n → not (nat_eq m n) ≡ true → ⊥
      apart m n e h = never (sym h ∙ ap not (eq-eqb m n e))

  -- what is so of each job that had begun is so of each that has begun
  pub begun_still : (P : Job → Type 0) → ((b : Begun) → IsIn x.s.begun b → P b.job) → (b : Begun) → IsIn (without x).begun b → P b.job
  begun_still P were b i =
      let from = map_in (ended_if (seen x.rules (ended_world x)) x.c.going x.ended.status) x.s.begun b i in
      subst P (sym (ap (λ (k : Begun). k.job) from.2 ∙ same_job (seen x.rules (ended_world x)) x.c.going x.ended.status from.0)) (were from.0 from.1)

  -- the children that are left are those of their jobs
  pub left_theirs : AreChildrenOf x.h.live.base.jobs.jobs (without x).begun x.places
  left_theirs = λ d i.
      let o = x.at.theirs d (was_left d i) in
      record {
        job = o.job;
        is = o.is;
        recipe = o.recipe;
        logs = o.logs;
        ask = o.ask;
        as_begun = ended_if (seen x.rules (ended_world x)) x.c.going x.ended.status o.as_begun;
        has_begun = in_map (ended_if (seen x.rules (ended_world x)) x.c.going x.ended.status) x.s.begun o.as_begun o.has_begun;
        is_job = same_job (seen x.rules (ended_world x)) x.c.going x.ended.status o.as_begun ∙ o.is_job;
      }

-- looks leave what children own
owners_stay : (w v : World) → v.nodes ≡ w.nodes → v.children ≡ w.children → HasOwners w → HasOwners v
owners_stay w v nodes children owners q owned =
    ap (λ cs. is_within q (owned_now cs)) children ∙ owners q (here ∙ owned)
  where
    here : w.nodes q ≡ v.nodes q
    here = λ i. sym nodes i q

module _ (l : Laws) (x : Closing) (guarding looks : List Event) (guards : HasGuarded (guards_of x.job x.how) guarding) (quiet : AreLooks false looks)
    (follows : Follows x.act x.w ((wait x ∷ x.closing) ++ (guarding ++ looks))) (unhalted : x.s.halted ≡ None) (o : Outcome)
    (outcome : IsOutcomeIn x.job o (guarded_world l x guarding looks guards quiet follows)) (new : LivePlan) (same : IsSamePlan x.h.live new)
    (told : IsTold x.rules.settings (closed_base x.c.job o x.h.live.base) new) (m : Parts) (live : m.live ≡ new) (places : m.places ≡ x.places) where
  abbrev now : World
  now = tended_world l x guarding looks guards quiet follows

  jobs_are : m.live.base.jobs ≡ x.h.live.base.jobs
  jobs_are = ap (λ (p : LivePlan). p.base.jobs) live ∙ same.jobs_stay

  base_is : m.live.base ≡ closed_base x.c.job o x.h.live.base
  base_is = ap (λ (p : LivePlan). p.base) live ∙ told.base_is

  owners_now : HasOwners now
  owners_now =
      subst HasOwners (sym (world_is l x guarding looks guards quiet follows))
      (owners_stay (guarded_world l x guarding looks guards quiet follows) (run (guarded_world l x guarding looks guards quiet follows) looks)
      (looked l x guarding looks guards quiet follows).nodes (looked l x guarding looks guards quiet follows).children outcome.owners)

  still_running : AreRunning m.live m.places
  still_running d i =
      let i' = subst (λ ps. IsIn ps (Some d)) places i in
      ap (λ (b : Base). slice_get b.phases d.job) base_is
      ∙ (get_other x.h.live.base.phases x.c.job d.job ClosedPhase (other_number x d i') ∙ (x.at.kept unhalted).running d (was_left x d i'))

  pub onward : IsOnward x.rules x.entry now (without x) m
  onward =
      record {
        live = subst IsLive (sym live) same.alive;
        settings = ap (λ (p : LivePlan). p.settings) live ∙ told.settings_are;
        derived =
            subst (λ (js : Jobs). derivation x.rules.flow (seen x.rules x.entry) js.lists x.rules.settings.targets ≡ Derived js.jobs) (sym jobs_are) x.at.derived;
        home = tended_home l x guarding looks guards quiet follows;
        owners = owners_now;
        ours = subst (λ (js : Jobs). IsOurs x.rules x.entry js.jobs now) (sym jobs_are) (closed_for l x guarding looks guards quiet follows).ours;
        sourced =
            subst (λ (js : Jobs). (p : Path) → among (told_sources js.makers) p ≡ true → is_source (seen x.rules x.entry) p ≡ true) (sym jobs_are) x.at.sourced;
        planned = begun_still x (IsIn m.live.base.jobs.jobs) (λ b i. subst (λ (js : Jobs). IsIn js.jobs b.job) (sym jobs_are) (x.at.planned b i));
        listed =
            begun_still x (IsListed (seen x.rules x.entry) m.live.base.jobs.lists)
            (λ b i. subst (λ (js : Jobs). IsListed (seen x.rules x.entry) js.lists b.job) (sym jobs_are) (x.at.listed b i));
        crew = subst (λ ps. IsCrew ps (without x).runs) (sym places) (left_crew x);
        children = tended_children l x guarding looks guards quiet follows ∙ left_children x;
        theirs =
            subst (λ (js : Jobs). AreChildrenOf js.jobs (without x).begun m.places) (sym jobs_are)
            (subst (AreChildrenOf x.h.live.base.jobs.jobs (without x).begun) (sym places) (left_theirs x));
        running = still_running;
        unhalted = unhalted;
        at_rest = at_rest l x guarding looks guards quiet follows unhalted;
        agrees = subst (IsAgreed (seen x.rules now) x.rules.settings) (sym base_is) (agrees_now l x guarding looks guards quiet follows unhalted o outcome);
        progressed =
            subst (λ b. AreAlike (moments.progress_of now (without x).begun) (progress_of b)) (sym base_is)
            (progressed_now l x guarding looks guards quiet follows unhalted o outcome);
        comes =
            subst (ComesTo x.rules (seen x.rules now) (moments.progress_of now (without x).begun) (lists (without x)))
            (listed l x guarding looks guards quiet follows unhalted ∙ ap (λ (js : Jobs). js.lists) (sym jobs_are)) (Here (lists (without x)));
      }
