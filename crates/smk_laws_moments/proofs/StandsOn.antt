-- What stays of the jobs whose children run, from one stand of a run to the next.
use Rattle.std.proofs.Common.{◌≡◌, ◌≢◌, ◌⊎◌, ℕ, Bool, true, false, ◌&&◌, List, [], ◌∷◌, ◌++◌, map, filter, flat_map, refl, sym, ap, subst, inl, inr, ◌∙◌, Option, Some, None, Result, Ok, Err, append_assoc, append-nil}
use Rattle.std.specs.Prelude.{not, nat_eq, nat_le, if◌then◌else◌}
use Rattle.std.specs.List.{list_all}
use Rattle.smk_world.specs.declared.event.Change.{Change}
use Rattle.smk_world.specs.declared.event.Ended.{Ended}
use Rattle.smk_world.specs.declared.event.Event.{Event}
use Rattle.smk_world.specs.World.{World, IsFormed, after, run, in_paths}
use Rattle.smk_world.specs.Trees.{Path, Each, IsIn, among}
use Rattle.smk_world.proofs.Names.{formed_after, formed_run}
use Rattle.smk_flow.specs.declared.job.Job.{Job}
use Rattle.smk_choose.specs.Choose.{Sources}
use Rattle.smk_store.specs.Images.{Image, is_source}
use Rattle.smk_store.specs.Soundness.{SameSources}
use Rattle.smk_chain.specs.Derive.{Listings, jobs, listing, sources_of}
use Rattle.smk_trigger.specs.declared.reason.State.{State}
use Rattle.smk_trigger.specs.JobStates.{is_to_run}
use Rattle.smk_plan.specs.States.{LastPlan, Last, Then, Plan, Progress, IsPlan, awaits, directory_over, gathers_from, is_at_hand, is_startable, job_path, new_listings, none_or_one, staged}
use Rattle.smk_laws_plan.specs.Current.{IsComplete}
use Rattle.smk_laws_plan.proofs.CurrentLists.{In, all_in, and_left, and_right, filter_in, find_in, flat_in, in_left, in_right, zip_first}
use Rattle.smk_laws_plan.proofs.PlanOne.{derived}
use Rattle.smk_laws_history.proofs.CurrentComplete.{seen_is_complete}
use Rattle.smk_laws_history.proofs.CurrentLaw.{last_is}
use Rattle.smk_laws_history.proofs.CurrentReads.{sources_alike}
use Rattle.smk_laws_protocol.proofs.Basics.{each_in, each_of, each_on}
use Rattle.smk_report.specs.declared.fault.Fault.{Fault}
use Rattle.smk_keep.specs.declared.fault.KeepFault.{KeepFault}
use Rattle.smk_keep.specs.declared.fault.KeepFault.TheVariants.{Device, OutOfMemory}
use Rattle.smk_report.specs.declared.fault.Fault.TheVariants as fault
use Rattle.smk_job.specs.Jobs.{Underway}
use Rattle.smk_run.specs.Closings.{wait_event}
use Rattle.smk_drive.specs.Moments.{Begun, IsInForce, Rules, begun_of, ending, lists_of, progress_of, seen}
use Rattle.smk_drive.specs.Lawful.{fit_together, running_jobs}
use Rattle.smk_drive_course.specs.Lawful.{is_free_to_start, may_start}
use Rattle.smk_drive_course.specs.Stands.{AtRest, Between, GoesBy, GoesOn, IsPlanned, IsRefused, IsReplanned, LacksMemory, Stand, WasHalted, broken_by_device, ended_if, first_stand, halted_by, is_job_of, lists, moment_of, replanned, with_job, without_child}
use Rattle.smk_drive_course.specs.Steps.{AreRemoved, Deed, GoesByAnswer, NoMore, OneMore}
use Rattle.smk_drive_course.specs.Breaks.{Begins, BeginsNot, BreaksOff, Closes, Done, FailsToWait, Halts, Leaves, ReadsNot, Spends, SpendsNot, Step, Steps, Waits}
use Rattle.smk_drive_course.specs.Breaks as breaks
use Rattle.smk_laws_moments.specs.Staying.{AreDerivedStill, FirstIsDerived, IsDerivedStill, IsListed, IsPlanOfSources, KeepsSources, ReplanningStaysDerived, StartIsDerived, StaysDerived, StepStaysDerived, derived_by}
use Rattle.smk_laws_moments.proofs.ChildrenOf.{run_more}
use Rattle.smk_laws_moments.proofs.Gathered.{at_hand_is_listed}
use Rattle.smk_laws_moments.proofs.Listed.{listed_jobs_stay}

none_some : {A : Type 0} (x : A) → None ≡ Some x → ⊥
none_some x h = cc

some_same : {A : Type 0} (x y : A) → Some x ≡ Some y → x ≡ y
some_same x y h = cc

in_mapped : {A B : Type 0} (f : A → B) (xs : List A) (x : A) → IsIn xs x → IsIn (map f xs) (f x)
in_mapped f [] x h = absurd h
in_mapped f (y ∷ xs) x (inl e) = inl (ap f e)
in_mapped f (y ∷ xs) x (inr i) = inr (in_mapped f xs x i)

-- the last plan of a chain, from which nothing becomes known
pub last_done : (rules : Rules) (image : Image) (progress : Progress) (L : Listings) (plan : Plan) → LastPlan rules.flow image rules.settings progress L plan → new_listings image rules.settings progress plan ≡ []
last_done rules image progress L plan (Last p is done) = done
last_done rules image progress L plan (Then p q is more rest) = last_done rules image progress _ plan rest

job_kept : (image : Image) (going : Underway) (status : ℕ) (b : Begun) → (ended_if image going status b).job ≡ b.job
job_kept image going status b = go (is_job_of going b)
  where
    go : (c : Bool) → (if c then (record b { ended = Some (ending image b.job status) }) else b).job ≡ b.job
    go true = refl
    go false = refl

module _ (rules : Rules) (entry : World) (formed : IsFormed entry) where
  abbrev pub found : Image
  found = seen rules entry

  complete : IsComplete found
  complete = seen_is_complete rules.read entry formed

  -- what is asked of a job and the listings of all plans so far
  abbrev pub Holds : Listings → Job → Type 0
  Holds L j = IsIn (derived_by rules entry L) j × IsListed found L j

  -- the jobs that have begun are still there, and what is asked of each that runs
  record Goes (s t : Stand) : Type 0 where
    begun : (b : Begun) → IsIn s.begun b → (c : Begun) × IsIn t.begun c × (c.job ≡ b.job)
    holds : (j : Job) → Holds (lists s) j → Holds (lists t) j

  still : (s t : Stand) → Goes s t → (going : Underway) → IsDerivedStill rules entry s going → IsDerivedStill rules entry t going
  still s t goes going d =
      let b = goes.begun d.begun d.has_begun in
      let h = goes.holds b.0.job (subst (Holds (lists s)) (sym b.2) (d.derived, d.listed)) in
      record {
        begun = b.0;
        has_begun = b.1;
        recipe = ap (λ (j : Job). j.recipe) b.2 ∙ d.recipe;
        logs = ap (λ (j : Job). j.logs) b.2 ∙ d.logs;
        derived = h.0;
        listed = h.1;
      }

  -- the same jobs have begun and run, by the same listings and plan
  record IsAlike (s t : Stand) : Type 0 where
    begun : t.begun ≡ s.begun
    runs : t.runs ≡ s.runs
    from : t.from ≡ s.from
    plan : t.plan ≡ s.plan

  alike : (s t : Stand) → IsAlike s t → AreDerivedStill rules entry s → AreDerivedStill rules entry t
  alike s t same are =
      let all : lists s ≡ lists t = sym (λ i. lists_of (same.plan i) (same.from i)) in
      let goes : Goes s t =
      record { begun = λ b i. (b, subst (λ bs. IsIn bs b) (sym same.begun) i, refl); holds = λ j h. subst (λ ls. Holds ls j) all h } in
      record {
        running = subst (Each (IsDerivedStill rules entry t)) (sym same.runs) (each_on (IsDerivedStill rules entry s) (IsDerivedStill rules entry t) (still s t goes) s.runs are.running);
        planned = λ plan e. are.planned plan (sym same.plan ∙ e);
      }

  halted : (s t : Stand) (f : Fault) → t ≡ halted_by f s → AreDerivedStill rules entry s → AreDerivedStill rules entry t
  halted s t f is are =
      alike s t
      (record {
        begun = ap (λ (x : Stand). x.begun) is;
        runs = ap (λ (x : Stand). x.runs) is;
        from = ap (λ (x : Stand). x.from) is;
        plan = ap (λ (x : Stand). x.plan) is;
      }) are

  broken : (s t : Stand) → t ≡ broken_by_device s → AreDerivedStill rules entry s → AreDerivedStill rules entry t
  broken s t is are =
      alike s t
      (record {
        begun = ap (λ (x : Stand). x.begun) is;
        runs = ap (λ (x : Stand). x.runs) is;
        from = ap (λ (x : Stand). x.from) is;
        plan = ap (λ (x : Stand). x.plan) is;
      }) are

  goes_by : (s t : Stand) (w : World) (events : List Event) → GoesBy rules entry s w events t → AreDerivedStill rules entry s → AreDerivedStill rules entry t
  goes_by s t w events (GoesOn clear) are = are
  goes_by s t w events (IsRefused f unhalted refused) are = halted s (halted_by f s) f refl are
  goes_by s t w events LacksMemory are = halted s (halted_by fault.OutOfMemory s) fault.OutOfMemory refl are
  goes_by s t w events (WasHalted was) are = are

  by_answer : (answer : Result (Unit {0}) KeepFault) (s t : Stand) (w : World) (events : List Event) → GoesByAnswer rules entry answer s w events t → AreDerivedStill rules entry s → AreDerivedStill rules entry t
  by_answer (Ok u) s t w events h are = goes_by s t w events h are
  by_answer (Err OutOfMemory) s t w events h are = halted s t fault.OutOfMemory h are
  by_answer (Err Device) s t w events h are = broken s t h are

  -- ## A child has ended

  each_kept : {A : Type 0} (P : A → Type 0) (test : A → Bool) (xs : List A) → Each P xs → Each P (filter test xs)
  each_kept P test xs all = each_of P (filter test xs) (λ x i. each_in P xs x all (filter_in test xs x i).0)

  pub ended : (s t : Stand) (image : Image) (going : Underway) (status : ℕ) → t ≡ without_child image going status s → AreDerivedStill rules entry s → AreDerivedStill rules entry t
  ended s t image going status is are = subst (AreDerivedStill rules entry) (sym is) here
    where
      u : Stand
      u = without_child image going status s

      here : AreDerivedStill rules entry (without_child image going status s)
      here =
          let goes : Goes s (without_child image going status s) =
          record {
            begun = λ b i. (ended_if image going status b, in_mapped (ended_if image going status) s.begun b i, job_kept image going status b);
            holds = λ j h. h;
          } in
          record {
            running = each_kept (IsDerivedStill rules entry (without_child image going status s)) (λ (r : Underway). not (nat_eq r.number going.number)) s.runs
                (each_on (IsDerivedStill rules entry s) (IsDerivedStill rules entry (without_child image going status s)) (still s (without_child image going status s) goes) s.runs are.running);
            planned = λ plan e. are.planned plan e;
          }

  -- ## A job begins

  begins_with : (s : Stand) (e : Job × State) (b : Begun) (going : Underway) → b.job ≡ e.0 → going.recipe ≡ e.0.recipe → going.logs ≡ e.0.logs → Holds (lists s) e.0 → AreDerivedStill rules entry s → AreDerivedStill rules entry (with_job b going s)
  begins_with s e b going is_job is_recipe is_logs holds are =
      let u = with_job b going s in
      let goes : Goes s (with_job b going s) = record { begun = λ c i. (c, in_left c s.begun (b ∷ []) i, refl); holds = λ j h. h } in
      let here = subst (Holds (lists s)) (sym is_job) holds in
      let new : IsDerivedStill rules entry (with_job b going s) going =
      record {
        begun = b;
        has_begun = in_right b s.begun (b ∷ []) (inl refl);
        recipe = ap (λ (j : Job). j.recipe) is_job ∙ sym is_recipe;
        logs = ap (λ (j : Job). j.logs) is_job ∙ sym is_logs;
        derived = here.0;
        listed = here.1;
      } in
      record {
        running =
            with_last s.runs
            (each_on (IsDerivedStill rules entry s) (IsDerivedStill rules entry (with_job b going s)) (still s (with_job b going s) goes) s.runs are.running) new;
        planned = λ plan e. are.planned plan e;
      }
    where
      with_last : (rs : List Underway) → Each (IsDerivedStill rules entry (with_job b going s)) rs → IsDerivedStill rules entry (with_job b going s) going → Each (IsDerivedStill rules entry (with_job b going s)) (rs ++ going ∷ [])
      with_last [] h last = (last, tt)
      with_last (r ∷ rs) h last = (h.0, with_last rs h.1 last)

  -- ## The plan is made anew

  module _ (w : World) (there : IsFormed w) (same : SameSources found (seen rules w)) where
    complete_there : IsComplete (seen rules w)
    complete_there = seen_is_complete rules.read w there

    sources_there : sources_of found ≡ sources_of (seen rules w)
    sources_there = sources_alike found (seen rules w) complete complete_there same

    listed_there : (L : Listings) (j : Job) → IsListed found L j → IsListed (seen rules w) L j
    listed_there L j = each_on (λ d. (is_source found d ≡ true) ⊎ (listing L d ≢ None)) (λ d. (is_source (seen rules w) d ≡ true) ⊎ (listing L d ≢ None)) one (gathers_from j)
      where
        one : (d : Path) → (is_source found d ≡ true) ⊎ (listing L d ≢ None) → (is_source (seen rules w) d ≡ true) ⊎ (listing L d ≢ None)
        one d (inl source) = inl (sym (ap (λ (S : Sources). S.is d) sources_there) ∙ source)
        one d (inr known) = inr known

    listed_here : (L : Listings) (j : Job) → IsListed (seen rules w) L j → IsListed found L j
    listed_here L j = each_on (λ d. (is_source (seen rules w) d ≡ true) ⊎ (listing L d ≢ None)) (λ d. (is_source found d ≡ true) ⊎ (listing L d ≢ None)) one (gathers_from j)
      where
        one : (d : Path) → (is_source (seen rules w) d ≡ true) ⊎ (listing L d ≢ None) → (is_source found d ≡ true) ⊎ (listing L d ≢ None)
        one d (inl source) = inl (ap (λ (S : Sources). S.is d) sources_there ∙ source)
        one d (inr known) = inr known

    -- the jobs of a plan of that folder are derived from the sources of the entry
    jobs_there : (progress : Progress) (plan : Plan) → IsPlan rules.flow (seen rules w) rules.settings progress plan → derived_by rules entry plan.lists ≡ plan.jobs
    jobs_there progress plan is =
        ap (λ (S : Sources). jobs rules.flow S plan.lists rules.settings.targets) sources_there
        ∙ (derived rules.flow (seen rules w) plan.lists rules.settings.targets plan.jobs complete_there is.derived).1

    -- along the chain there
    along : (progress : Progress) (L : Listings) (plan : Plan) → LastPlan rules.flow (seen rules w) rules.settings progress L plan → (j : Job) → Holds L j → Holds plan.lists j
    along progress L plan chain j (is_derived, listed) =
        let r =
        listed_jobs_stay rules.flow (seen rules w) rules.settings progress L plan j complete_there chain
        (subst (λ (S : Sources). IsIn (jobs rules.flow S L rules.settings.targets) j) sources_there is_derived) (listed_there L j listed) in (
          subst (λ js. IsIn js j) (sym (jobs_there progress plan (last_is rules.flow (seen rules w) rules.settings progress L plan chain))) r.0,
          listed_here plan.lists j r.1,
        )

    plan_there : (progress : Progress) (plan : Plan) → IsPlan rules.flow (seen rules w) rules.settings progress plan → IsPlanOfSources rules entry plan
    plan_there progress plan is = record { image = seen rules w; progress = progress; complete = complete_there; sources = same; is_plan = is }

    anew_with : (s : Stand) → (plan : Option Plan) → IsInForce rules w s.begun (lists s) plan → AreDerivedStill rules entry s → AreDerivedStill rules entry (replanned plan s)
    anew_with s None force are =
        let goes : Goes s (replanned None s) = record { begun = λ b i. (b, i, refl); holds = λ j h. h } in
        record {
          running = each_on (IsDerivedStill rules entry s) (IsDerivedStill rules entry (replanned None s)) (still s (replanned None s) goes) s.runs are.running;
          planned = λ plan e. absurd (none_some plan e);
        }
    anew_with s (Some plan) force are =
        let goes : Goes s (replanned (Some plan) s) = record { begun = λ b i. (b, i, refl); holds = along (progress_of w s.begun) (lists s) plan force } in
        record {
          running = each_on (IsDerivedStill rules entry s) (IsDerivedStill rules entry (replanned (Some plan) s)) (still s (replanned (Some plan) s) goes) s.runs are.running;
          planned = λ p e.
              subst (IsPlanOfSources rules entry) (some_same plan p e)
              (plan_there (progress_of w s.begun) plan (last_is rules.flow (seen rules w) rules.settings (progress_of w s.begun) (lists s) plan force));
        }

    -- what is asked of a job still holds of it
    holds_with : (s : Stand) (plan : Option Plan) → IsInForce rules w s.begun (lists s) plan → (j : Job) → Holds (lists s) j → Holds (lists_of plan (lists s)) j
    holds_with s None force j h = h
    holds_with s (Some plan) force j h = along (progress_of w s.begun) (lists s) plan force j h

    pub holds_anew : (s t : Stand) → IsReplanned rules s w t → (j : Job) → Holds (lists s) j → Holds (lists t) j
    holds_anew s t (AtRest plan rest force) j h = holds_with s plan force j h
    holds_anew s t (Between rest) j h = h

    anew : (s t : Stand) → IsReplanned rules s w t → AreDerivedStill rules entry s → AreDerivedStill rules entry t
    anew s t (AtRest plan rest force) are = anew_with s plan force are
    anew s t (Between rest) are = are

    -- what is asked of a job and its listings holds of one that may start, by the plan that is in force there
    by_plan :
        (begun : List Begun) (from : Listings) (plan : Plan) (e : Job × State) → LastPlan rules.flow (seen rules w) rules.settings (progress_of w begun) from plan →
        In e (staged plan) → is_startable (seen rules w) rules.settings (progress_of w begun) plan e ≡ true → Holds plan.lists e.0
    by_plan begun from plan e chain staged_there startable =
        let progress = progress_of w begun in
        let is = last_is rules.flow (seen rules w) rules.settings progress from plan chain in
        let planned = zip_first plan.jobs plan.states e.0 e.1 staged_there in
        let at_hand = and_right (not (among progress.begun (job_path e.0))) _ (and_right (is_to_run e.1) _ startable) in (
          subst (λ js. IsIn js e.0) (sym (jobs_there progress plan is)) planned,
          listed_here plan.lists e.0
              (each_of (λ d. (is_source (seen rules w) d ≡ true) ⊎ (listing plan.lists d ≢ None)) (gathers_from e.0)
              (λ d g. at_hand_is_listed rules.flow (seen rules w) rules.settings progress plan complete_there is e.0 d
              (last_done rules (seen rules w) progress from plan chain) planned g
              (all_in (is_at_hand (seen rules w) rules.settings progress plan) (in_paths e.0.recipe ++ awaits plan e.0) d at_hand
              (in_right d (in_paths e.0.recipe) (awaits plan e.0)
              (in_left d (gathers_from e.0) (flat_map (directory_over plan) (in_paths e.0.recipe ++ gathers_from e.0)) g))))),
        )

    startable_holds : (s : Stand) (before : List Event) (e : Job × State) → IsPlanned rules s w → IsIn (may_start rules (moment_of s w before)) e → Holds (lists s) e.0
    startable_holds s before e planned i =
        let r = flat_in may_of (none_or_one s.plan) e i in
        let in_force = one_plan s.plan r.0 r.1 in
        let free = filter_in (λ (k : Job × State). is_free_to_start rules (moment_of s w before) r.0 k && fit_together rules (k.0 ∷ running_jobs (moment_of s w before))) (staged r.0) e r.2 in
        subst (λ o. Holds (lists_of o s.from) e.0) (sym in_force)
        (by_plan s.begun s.from r.0 e (subst (λ o. IsInForce rules w s.begun s.from o) in_force planned) free.0 (and_left _ _ (and_left _ _ free.1)))
      where
        may_of : Plan → List (Job × State)
        may_of plan = filter (λ (k : Job × State). is_free_to_start rules (moment_of s w before) plan k && fit_together rules (k.0 ∷ running_jobs (moment_of s w before))) (staged plan)

        one_plan : (o : Option Plan) (plan : Plan) → In plan (none_or_one o) → o ≡ Some plan
        one_plan None plan k = absurd k
        one_plan (Some p) plan (inl e) = ap Some (sym e)
        one_plan (Some p) plan (inr k) = absurd k

  -- ## Steps

  -- the plan is made anew at each removal of a spent output
  removed : (s t : Stand) (w : World) (before : List Event) (paths : List Path) (es : List Event) → IsFormed w → KeepsSources rules entry w es → AreRemoved rules s w before paths es t → AreDerivedStill rules entry s → AreDerivedStill rules entry t
  removed s t w before paths es there keeps (NoMore s1 w1 before1) are = are
  removed s t w before paths es there keeps (OneMore s1 t1 u1 w1 before1 p ps e es1 clear spent listed done plans rest) are =
      removed t1 u1 (after w1 e) (before1 ++ e ∷ []) ps es1 (formed_after w1 e there) (λ front more h. keeps (e ∷ front) more (ap (λ xs. e ∷ xs) h)) rest
      (anew (after w1 e) (formed_after w1 e there) (keeps (e ∷ []) es1 refl) s1 t1 plans are)

  ended_stand : (s : Stand) (w : World) (going : Underway) (e : Ended) (left : List Change) (t : Stand) → t ≡ without_child (seen rules (after w (wait_event e left))) going e.status s → AreDerivedStill rules entry s → AreDerivedStill rules entry t
  ended_stand s w going e left t is are = ended s t (seen rules (after w (wait_event e left))) going e.status is are

  one_step :
      (s t : Stand) (w : World) (before es : List Event) (deeds : List Deed) → IsFormed w → KeepsSources rules entry w es → AreDerivedStill rules entry s →
      Step rules entry s w before es deeds t → AreDerivedStill rules entry t
  one_step s t w before es deeds there keeps are (Begins h) =
      let b = begun_of rules entry (moment_of s w before) h.job in
      let holds = startable_holds w there (keeps [] es refl) s before h.job h.to_begin.next.clear.planned
      (find_in (λ (e : Job × State). list_all (λ (k : Job × State). nat_le k.0.priority e.0.priority) (may_start rules (moment_of s w before))) (may_start rules (moment_of s w before)) h.job h.to_begin.next.first).0 in
      let with_new = begins_with s h.job b h.going refl (ap (λ (g : Underway). g.recipe) h.is) (ap (λ (g : Underway). g.logs) h.is) holds are in
      goes_by h.next t (run w es) (before ++ es) h.goes_by
      (anew (run w es) (formed_run w es there) (keeps es [] (sym (append-nil es))) (with_job b h.going s) h.next h.replanned with_new)
  one_step s t w before es deeds there keeps are (Closes h) =
      let front = wait_event h.ended h.left ∷ h.closing in
      let u = without_child (seen rules (after w (wait_event h.ended h.left))) h.going h.ended.status s in
      by_answer h.answer h.next t (run w front) (before ++ front) h.goes_by
      (anew (run w front) (formed_run w front there) (keeps front h.tending h.events) u h.next h.replanned (ended_stand s w h.going h.ended h.left u refl are))
  one_step s t w before es deeds there keeps are (Spends h) =
      goes_by h.last t (run w h.removing) (before ++ h.removing) h.goes_by
      (removed s h.last w before h.paths h.removing there (λ front more e. keeps front (more ++ h.settling) (h.events ∙ (ap (λ xs. xs ++ h.settling) e ∙ append_assoc front more h.settling))) h.removed are)
  one_step s t w before es deeds there keeps are (Halts h) = halted s t h.why h.leaves are
  one_step s t w before es deeds there keeps are (Leaves h) =
      let u = without_child (seen rules (after w (wait_event h.ended h.left))) h.going h.ended.status s in
      halted u t fault.OutOfMemory h.leaves (ended_stand s w h.going h.ended h.left u refl are)
  one_step s t w before es deeds there keeps are (BreaksOff h) =
      let u = without_child (seen rules (after w (wait_event h.ended h.left))) h.going h.ended.status s in
      broken u t h.leaves (ended_stand s w h.going h.ended h.left u refl are)
  one_step s t w before es deeds there keeps are (ReadsNot h) = broken s t h.leaves are
  one_step s t w before es deeds there keeps are (BeginsNot h) = broken s t h.leaves are
  one_step s t w before es deeds there keeps are (SpendsNot h) =
      broken h.last t h.leaves
      (removed s h.last w before h.paths h.removing there (λ front more e. keeps front (more ++ h.failing ∷ []) (h.events ∙ (ap (λ xs. xs ++ h.failing ∷ []) e ∙ append_assoc front more (h.failing ∷ [])))) h.removed are)
  one_step s t w before es deeds there keeps are (Waits h) = ended_stand s w h.going h.ended h.left t h.leaves are
  one_step s t w before es deeds there keeps are (FailsToWait h) = broken s t h.leaves are

  all_steps :
      (s t : Stand) (w : World) (before es : List Event) (deeds : List Deed) → IsFormed w → KeepsSources rules entry w es → AreDerivedStill rules entry s →
      Steps rules entry s w before es deeds t → AreDerivedStill rules entry t
  all_steps s t w before es deeds there keeps are (Done s1 w1 before1) = are
  all_steps s t w before es deeds there keeps are (breaks.Then s1 t1 u1 w1 before1 es1 fs deeds1 more step steps) =
      all_steps t1 u1 (run w1 es1) (before1 ++ es1) fs more (formed_run w1 es1 there)
      (λ front rest h. subst (λ (v : World). SameSources found (seen rules v)) (run_more w1 es1 front) (keeps (es1 ++ front) rest (ap (λ xs. es1 ++ xs) h ∙ sym (append_assoc es1 front rest))))
      (one_step s1 t1 w1 before1 es1 deeds1 there (λ front rest h. keeps front (rest ++ fs) (ap (λ xs. xs ++ fs) h ∙ append_assoc front rest fs)) are step) steps

  -- ## The first stand

  none_yet : AreDerivedStill rules entry (first_stand None)
  none_yet = record { running = tt; planned = λ plan e. absurd (none_some plan e) }

  at_first : (plan : Option Plan) → IsPlanned rules (first_stand plan) entry → AreDerivedStill rules entry (first_stand plan)
  at_first plan force = alike (replanned plan (first_stand None)) (first_stand plan) (record { begun = refl; runs = refl; from = refl; plan = refl }) (anew_with entry formed (λ p. refl) (first_stand None) plan force none_yet)

pub first_is_derived : FirstIsDerived
first_is_derived rules entry plan formed planned = at_first rules entry formed plan planned

pub start_is_derived : StartIsDerived
start_is_derived rules entry w plan answer events start formed planned goes = by_answer rules entry formed answer (first_stand plan) start w events goes (at_first rules entry formed plan planned)

pub step_stays_derived : StepStaysDerived
step_stays_derived rules entry s t before es deeds formed keeps are step =
    one_step rules entry formed s t (run entry before) before es deeds (formed_run entry before formed) keeps are step

pub replanning_stays_derived : ReplanningStaysDerived
replanning_stays_derived rules entry w s t formed there same plans are = anew rules entry formed w there same s t plans are

pub stays_derived : StaysDerived
stays_derived rules entry s t before es deeds formed keeps are steps =
    all_steps rules entry formed s t (run entry before) before es deeds (formed_run entry before formed) keeps are steps
