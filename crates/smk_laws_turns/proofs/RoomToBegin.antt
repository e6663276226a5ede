-- Running children leave room for the job that is next.
use Rattle.std.proofs.Common.{◌≡◌, ◌⊎◌, inl, inr, true, false, not, List, [], ◌∷◌, ◌++◌, refl, ap, sym, subst, ◌∙◌, Option, true≢false}
use Rattle.std.specs.Prelude.{is_some}
use Rattle.std.proofs.lemmas.Option.{same_Some}
use Rattle.smk_world.specs.declared.event.Child.{Child as WorldChild}
use Rattle.smk_world.specs.declared.event.Event.{Event}
use Rattle.smk_world.specs.declared.recipe.Recipe.{Recipe}
use Rattle.smk_world.specs.Calls.{HasOwners, any_overlap, owned_now}
use Rattle.smk_world.specs.Trees.{Act, Each, IsIn, Path, among}
use Rattle.smk_world.specs.World.{World, in_paths, is_within, owned_paths, reading}
use Rattle.smk_flow.specs.declared.job.Job.{Job}
use Rattle.smk_store.specs.Images.{Image}
use Rattle.smk_store.specs.Unowned.{IsUnownedUnder}
use Rattle.smk_trigger.specs.declared.reason.State.{State}
use Rattle.smk_trigger.specs.declared.reason.State.TheVariants.{Open, Dirty, Restore, Clean}
use Rattle.smk_trigger.specs.JobStates.{is_clean, is_to_run}
use Rattle.smk_plan.specs.States.{Plan, Progress, awaits, by_table, is_at_hand, job_path, kept_state, makes, state_of}
use Rattle.smk_job.specs.Jobs.{LetsBegin, Underway}
use Rattle.smk_drive.specs.Moments.{Rules, progress_of, runs, seen}
use Rattle.smk_drive_course.specs.Stands.{Stand}
use Rattle.smk_drive_course.specs.Steps.{Deed, IsNext}
use Rattle.smk_laws_protocol.proofs.Basics.{each_of}
use Rattle.smk_laws_plan.proofs.CurrentLists.{all_in, in_either, in_left, in_map}
use Rattle.smk_laws_plan.proofs.CurrentProducts.{Planned}
use Rattle.smk_laws_history.proofs.CurrentComplete.{seen_is_complete}
use Rattle.smk_laws_history.proofs.Valid.{records_valid}
use Rattle.smk_laws_moments.proofs.Inputs.{clear_of_inputs, inputs_clear, unclean_makes_none}
use Rattle.smk_laws_moments.proofs.Next.{IsStarting, starting}
use Rattle.smk_laws_moments.proofs.Others.{has_begun, is_kept, kept_unclean, named_apart, read_by_none}
use Rattle.smk_laws_moments.proofs.Spots.{own_apart, owned, owned_between}
use Rattle.smk_laws_turns.specs.Hubs.{AreSpaced, IsAt, Parts, child_of, plan_of}
use Rattle.smk_laws_turns.specs.Turning.{OfParts}
use Rattle.smk_laws_turns.specs.Room.{RoomBegun, RoomToBegin, UnownedToRead}
use Rattle.smk_laws_turns.proofs.Overlaps.{all_by, apart_at, apart_back, apart_both, owned_of, unowned_now, unowned_under, unused_now, used_of}
use Rattle.smk_laws_turns.proofs.Staff.{IsChildOfJob, job_of_child, runs_now, use_users}

-- what is to run isn't Clean
run_unclean : (x : State) → is_to_run x ≡ true → is_clean x ≡ false
run_unclean Open h = refl
run_unclean (Dirty rs) h = refl
run_unclean Restore h = refl
run_unclean Clean h = absurd (true≢false (sym h))

-- A job that is next, of a plan that is kept.
module _
    (act : Act) (rules : Rules) (entry : World) (h : Parts) (s : Stand) (w : World) (before : List Event) (deeds : List Deed) (e : Job × State)
    (at : IsAt rules entry h s w before deeds) (next : IsNext rules s w before e) where
  abbrev image : Image
  image = seen rules w

  abbrev progress : Progress
  progress = progress_of w s.begun

  by : IsStarting rules s w e
  by = starting rules s w before e next

  abbrev plan : Plan
  plan = by.plan

  abbrev kept_of : Job → Option State
  kept_of j = kept_state image rules.settings progress plan j

  abbrev ins : List Path
  ins = in_paths e.0.recipe

  planned : Planned rules.flow image rules.settings progress plan
  planned = record {
    complete = seen_is_complete rules.read w at.home.formed;
    valid = records_valid rules.read w.names (λ q. reading (w.nodes q));
    derived = by.is_plan;
  }

  -- its jobs are those of the plan that is kept
  same_jobs : plan.jobs ≡ h.live.base.jobs.jobs
  same_jobs = ap (λ (p : Plan). p.jobs) (same_Some plan (plan_of h.live) (sym by.in_force ∙ (at.kept next.clear.unhalted).plan))

  unclean : is_clean (state_of image rules.settings progress plan e.0) ≡ false
  unclean = ap is_clean (sym by.state) ∙ run_unclean e.1 by.to_run

  -- what isn't Clean makes none of its inputs
  unclean_apart : (k : Job) → IsIn plan.jobs k → is_clean (state_of image rules.settings progress plan k) ≡ false → (q : Path) → IsIn ins q → makes k q ≡ false
  unclean_apart k ik never q iq =
      unclean_makes_none rules.flow act image rules.settings progress plan planned k q ik never
      (all_in (is_at_hand image rules.settings progress plan) (ins ++ awaits plan e.0) q by.at_hand (in_left q ins (awaits plan e.0) iq))

  -- a job of the plan whose child runs
  record IsRunningJob (k : Job) : Type 0 where
    pub of_plan : IsIn plan.jobs k
    pub kept : is_some (kept_of k) ≡ true
    pub begun : among progress.begun (job_path k) ≡ true

  running_job : (c : WorldChild) → IsIn w.children c → (of : IsChildOfJob h.live.base.jobs.jobs s.begun c.recipe c.logs) → IsRunningJob of.job
  running_job c i of =
      let running = runs_now w c of.job i of.same_recipe in
      record {
        of_plan = subst (λ js. IsIn js of.job) (sym same_jobs) of.of_plan;
        kept = subst (λ k. is_some (kept_of k) ≡ true) of.is_job
            (is_kept image rules.settings plan w s.begun of.as_begun of.has_begun (subst (λ k. runs w k ≡ true) (sym of.is_job) running));
        begun = subst (λ k. among progress.begun (job_path k) ≡ true) of.is_job
            (has_begun image rules.settings plan w s.begun of.as_begun of.has_begun);
      }

  -- nothing of the job that is next overlaps what that one owns or reads
  record IsPlannedApart (k : Job) : Type 0 where
    pub owns : any_overlap (owned e.0) (owned k) ≡ false
    pub not_read : any_overlap (owned e.0) (in_paths k.recipe) ≡ false
    pub reads_not : any_overlap ins (owned k) ≡ false

  apart_from : (k : Job) → IsRunningJob k → IsPlannedApart k
  apart_from k r = record {
    owns = owned_between rules.flow image plan.lists rules.settings.targets plan.jobs planned.complete by.is_plan.derived
        (λ j. not (among progress.begun (job_path j))) e.0 k by.planned r.of_plan (ap not by.unbegun) (ap not r.begun);
    not_read = inputs_clear rules.flow act image rules.settings progress plan planned k e.0 r.of_plan by.planned (λ q iq.
        read_by_none image rules.settings progress plan e.0 k q by.unread r.of_plan r.kept
        (named_apart progress.begun (job_path e.0) (job_path k) by.unbegun r.begun) iq);
    reads_not = clear_of_inputs rules.flow act image rules.settings progress plan planned e.0 k by.planned r.of_plan
        (unclean_apart k r.of_plan (kept_unclean (kept_of k) (by_table image rules.settings progress plan k) r.kept));
  }

  -- nor what a child owns or reads
  record IsApartFrom (recipe : Recipe) (logs : List Path) : Type 0 where
    pub owns : any_overlap (owned e.0) (owned_paths recipe logs) ≡ false
    pub not_read : any_overlap (owned e.0) (in_paths recipe) ≡ false
    pub reads_not : any_overlap ins (owned_paths recipe logs) ≡ false

  from_child : (c : WorldChild) → IsIn w.children c → IsApartFrom c.recipe c.logs
  from_child c i =
      let of = job_of_child rules entry h s w before deeds at c i in
      let apart = apart_from of.job (running_job c i of) in
      let owns : owned of.job ≡ owned_paths c.recipe c.logs = λ i. owned_paths (of.same_recipe i) (of.same_logs i) in
      record {
        owns = subst (λ ps. any_overlap (owned e.0) ps ≡ false) owns apart.owns;
        not_read = subst (λ r. any_overlap (owned e.0) (in_paths r) ≡ false) of.same_recipe apart.not_read;
        reads_not = subst (λ ps. any_overlap ins ps ≡ false) owns apart.reads_not;
      }

  lets_begin : LetsBegin w e.0.recipe e.0.logs
  lets_begin = record {
    inputs = all_by (λ p. is_within p (owned_now w.children) ≡ false) ins (λ p ip.
        unowned_now p w.children (λ c i q iq. apart_at ins (owned_paths c.recipe c.logs) p q (from_child c i).reads_not ip iq));
    apart = unused_now (owned e.0) w.children (λ c i.
        let a = from_child c i in apart_both (owned e.0) (in_paths c.recipe) (owned_paths c.recipe c.logs) a.not_read a.owns);
    own_apart = own_apart rules.flow image plan.lists rules.settings.targets plan.jobs planned.complete by.is_plan.derived e.0 by.planned;
    users = use_users rules entry h s w before deeds at w.children (λ c i. i);
  }

  unowned : HasOwners w → Each (IsUnownedUnder w.nodes) ins
  unowned owners = each_of (IsUnownedUnder w.nodes) ins (λ p ip.
      unowned_under w p owners (λ c i q iq. apart_at ins (owned_paths c.recipe c.logs) p q (from_child c i).reads_not ip iq))

  -- ## Beside the others

  in_folder : (g : Underway) → IsIn s.runs g → IsIn w.children (child_of g)
  in_folder g i = subst (λ cs. IsIn cs (child_of g)) (sym at.children) (in_map child_of s.runs g i)

  -- one of the others, and it
  from_other : (g c : Underway) → IsIn s.runs g → c.recipe ≡ e.0.recipe → c.logs ≡ e.0.logs →
      (any_overlap (owned_of g) (used_of c) ≡ false) × (any_overlap (owned_of c) (used_of g) ≡ false)
  from_other g c i same_recipe same_logs =
      let a = from_child (child_of g) (in_folder g i) in
      let mine : owned e.0 ≡ owned_of c = λ i. owned_paths (sym same_recipe i) (sym same_logs i) in (
        apart_both (owned_of g) (in_paths c.recipe) (owned_of c)
            (subst (λ r. any_overlap (owned_of g) (in_paths r) ≡ false) (sym same_recipe) (apart_back ins (owned_of g) a.reads_not))
            (subst (λ ps. any_overlap (owned_of g) ps ≡ false) mine (apart_back (owned e.0) (owned_of g) a.owns)),
        subst (λ ps. any_overlap ps (used_of g) ≡ false) mine (apart_both (owned e.0) (in_paths g.recipe) (owned_of g) a.not_read a.owns),
      )

  spaced_with : (c : Underway) → c.recipe ≡ e.0.recipe → c.logs ≡ e.0.logs → AreSpaced (s.runs ++ c ∷ [])
  spaced_with c same_recipe same_logs g k ig ik = go (in_either g s.runs (c ∷ []) ig) (in_either k s.runs (c ∷ []) ik)
    where
      go : IsIn s.runs g ⊎ IsIn (c ∷ []) g → IsIn s.runs k ⊎ IsIn (c ∷ []) k → ¬ (k.number ≡ g.number) → any_overlap (owned_of g) (used_of k) ≡ false
      go (inl i) (inl l) differ = at.spaced g k i l differ
      go (inl i) (inr (inl d)) differ = subst (λ x. any_overlap (owned_of g) (used_of x) ≡ false) (sym d) (from_other g c i same_recipe same_logs).0
      go (inr (inl d)) (inl l) differ = subst (λ x. any_overlap (owned_of x) (used_of k) ≡ false) (sym d) (from_other k c l same_recipe same_logs).1
      go (inr (inl d)) (inr (inl b)) differ = absurd (differ (ap (λ (x : Underway). x.number) (b ∙ sym d)))
      go (inl i) (inr (inr never)) differ = absurd never
      go (inr (inr never)) l differ = absurd never
      go (inr (inl d)) (inr (inr never)) differ = absurd never

-- whatever commands do
abbrev nothing_done : Act
nothing_done recipe trees = record { status = 0; outputs = [] }

pub room_to_begin : OfParts RoomToBegin
room_to_begin rules entry h s w before deeds e at next = lets_begin nothing_done rules entry h s w before deeds e at next

pub room_begun : OfParts RoomBegun
room_begun rules entry h s w before deeds e c at next same_recipe same_logs =
    spaced_with nothing_done rules entry h s w before deeds e at next c same_recipe same_logs

pub unowned_to_read : OfParts UnownedToRead
unowned_to_read rules entry h s w before deeds e at next owners = unowned nothing_done rules entry h s w before deeds e at next owners
