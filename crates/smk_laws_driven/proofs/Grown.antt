-- Which fault comes first in the steps of a run whose plans may grow.
use Rattle.std.proofs.Common.{◌≡◌, ◌≢◌, ◌⊎◌, inl, inr, ℕ, true, List, [], ◌∷◌, ◌++◌, map, refl, sym, ap, subst, ◌∙◌, Option, Some, None, Result, Ok, Err, append_assoc, append-nil, is_none, true≢false}
use Rattle.smk_world.specs.declared.event.Event.{Event}
use Rattle.smk_world.specs.World.{World, IsFormed, after, in_paths, run}
use Rattle.smk_world.specs.Requests.{HasDone}
use Rattle.smk_world.specs.Requests.Request.{Remove}
use Rattle.smk_world.specs.Runs.{Follows}
use Rattle.smk_world.specs.Trees.{Act, Each, IsIn, Path}
use Rattle.smk_world.proofs.Names.{formed_run}
use Rattle.smk_record.specs.Spelling.{ReadsRecords}
use Rattle.smk_store.specs.Images.{is_source, Image}
use Rattle.smk_store.specs.Soundness.{Outside, SameSources, SoundWorld}
use Rattle.smk_store.specs.Trust.{SumsDiffer, Versions}
use Rattle.smk_chain.specs.Derive.{Listings, jobs, listing, Derived, derivation, sources_of}
use Rattle.smk_chain.specs.Mean.{setting_of}
use Rattle.smk_plan.specs.States as plans
use Rattle.smk_plan.specs.States.{LastPlan, Plan, awaits, gathers_from, directory_over, is_at_hand, Last, Progress, new_listings}
use Rattle.smk_keep.specs.declared.fault.KeepFault.{KeepFault}
use Rattle.smk_keep.specs.declared.fault.KeepFault.TheVariants.{Device, OutOfMemory}
use Rattle.smk_laws_plan.proofs.CurrentLists.{all_in, in_left, in_right}
use Rattle.smk_laws_plan.proofs.PlanOne.{derived}
use Rattle.smk_laws_history.proofs.CurrentComplete.{seen_is_complete}
use Rattle.smk_laws_history.proofs.CurrentReads.{sources_alike}
use Rattle.smk_laws_complete.specs.Derived.{AllHaveValues, GathersAlone}
use Rattle.smk_laws_protocol.specs.Midway.{IsTop, Midway}
use Rattle.smk_laws_protocol.proofs.Basics.{each_in, each_of, each_on}
use Rattle.smk_laws_protocol.proofs.MidwayHolds.{holds_midway}
use Rattle.smk_safe.proofs.Done.{follows_split}
use Rattle.smk_job.specs.Jobs.{Underway}
use Rattle.smk_run.specs.Closings.{wait_event}
use Rattle.smk_laws_driven.specs.Completing.{LongRecord as TooLongRecord, MayBreakOff, NoSerial as NoneLeft}
use Rattle.smk_report.specs.declared.fault.Fault.{Fault}
use Rattle.smk_report.specs.declared.fault.Fault.TheVariants as fault
use Rattle.smk_drive.specs.Moments.{Begun, IsInForce, Rules, begun_of, is_rest, is_spent_now, lists_of, progress_of, seen}
use Rattle.smk_drive.specs.Refusals.{ChainRefuses}
use Rattle.smk_drive_course.specs.Refusals.{LongRecord, NoSerial, PlansAreRefused}
use Rattle.smk_drive_course.specs.Stands.{AtRest, Between, GoesBy, GoesOn, IsClear, IsRefused, IsReplanned, LacksMemory, Refuses, Stand, WasHalted, halted_by, lists, moment_of, with_job, without_child}
use Rattle.smk_drive_course.specs.Steps.{AreRemoved, Deed, GoesByAnswer, HasBegun, HasClosed, HasSpent, IsAsListed, NoMore, OneMore, Unguarded}
use Rattle.smk_drive_course.specs.Breaks.{Begins, BeginsNot, BreaksOff, Closes, Done, FailsToWait, Halts, Leaves, ReadsNot, Spends, SpendsNot, Step, Steps, Then, Waits}
use Rattle.smk_laws_moments.specs.Courses.{HasChildren, IsHaltedIfBroken, child_of}
use Rattle.smk_laws_moments.proofs.ChildrenOf.{run_more}
use Rattle.smk_laws_moments.proofs.Fates.{IsKept, answer_kept, begun_stand, first_fault_stays, goes_kept, kept_then, replanned_kept}
use Rattle.smk_laws_moments.proofs.QuietCalls.{IsQuiet, quiet_children}
use Rattle.smk_laws_moments.specs.Staying.{IsDerivedStill, IsListed, derived_by}
use Rattle.smk_laws_moments.proofs.Gathered.{at_hand_is_listed}
use Rattle.smk_laws_moments.proofs.Planned.{midway_keeps_sources}
use Rattle.smk_laws_moments.proofs.StandsOn.{ended, last_done}
use Rattle.smk_laws_moments.proofs.Next.{IsStarting, starting}
use Rattle.smk_laws_turns.specs.Following.{IsReached}
use Rattle.smk_laws_driven.proofs.Good.{stand_right}
use Rattle.smk_laws_driven.proofs.Lasting.{WasClear, answer_clear, clear_force, step_broken, step_clear, unhalted_step}
use Rattle.smk_laws_driven.proofs.Listed.{IsListedWell, all_meant, next_well}
use Rattle.smk_laws_driven.proofs.Once.{begun_once, ended_once, kept_once}
use Rattle.smk_laws_driven.proofs.Reaching as reaching
use Rattle.smk_laws_driven.proofs.Restored.{IsOnce}
use Rattle.smk_laws_driven.proofs.SoundNow.{sound_now}
use Rattle.smk_laws_driven.proofs.Spending.{one_reached, IsLeft, aside_stays, removed_leave, spent_leaves}
use Rattle.smk_laws_plan.specs.Signs.{HasOwnSigns}
use Rattle.smk_laws_driven.proofs.Leaving.{clear_plan}
use Rattle.smk_laws_turns.specs.Leaving.{AreOwnCalls}
use Rattle.smk_laws_history.proofs.CurrentLaw.{last_is}
use Rattle.smk_pick.specs.declared.settings.Settings.{Settings}
use Rattle.smk_flow.specs.Flows.{Flow}
use Rattle.smk_flow.specs.declared.job.Job.{Job}
use Rattle.smk_base.specs.Place.{mark_place, note_place, record_place}
use Rattle.smk_base.proofs.Apart.{path-mark, path-note, path-record}
use Rattle.smk_laws_driven.proofs.Own.{begin_calls, closed_calls, closed_in, closed_job, closing_calls}
use Rattle.smk_laws_driven.proofs.Signed.{signs_kept, signs_on, signs_stay}
use Rattle.smk_laws_driven.specs.Grown.{IsGrownNamed}
use Rattle.smk_laws_driven.proofs.Faulted as faulted
use Rattle.smk_laws_driven.proofs.Faulted.{halted_is, none_some, replanned_halted, same_fault}
use Rattle.smk_laws_driven.proofs.Growing as growing
use Rattle.smk_laws_driven.proofs.Growing.{standing, still_with}

-- the listings with which the next chain begins, where the plan is made anew at a rest
rest_from : (rules : Rules) (s t : Stand) (v : World) → IsReplanned rules s v t → is_rest v t.begun ≡ true → t.from ≡ lists s
rest_from rules s t v (AtRest made rest force) at = refl
rest_from rules s t v (Between unrested) at = absurd (true≢false (sym at ∙ unrested))

-- the listings of the last plan are those from which the chain began, and further ones
last_more :
    (flow : Flow) (image : Image) (settings : Settings) (progress : Progress) (L : Listings) (last : Plan) → LastPlan flow image settings progress L last →
    (M : Listings) × (last.lists ≡ L ++ M)
last_more flow image settings progress L last (Last p is done) = ([], sym (append-nil p.lists))
last_more flow image settings progress L last (plans.Then p q is more rest) =
    let new = new_listings image settings progress p in
    let r = last_more flow image settings progress (p.lists ++ new) last rest in
    (new ++ r.0, r.1 ∙ append_assoc p.lists new r.0)

module _ (act : Act) (rules : Rules) (entry : World) (H : Versions) (reads : ReadsRecords rules.read) (differ : SumsDiffer H)
    (sound : SoundWorld (record { read = rules.read; act = act }) entry H) (alone : GathersAlone rules.flow)
    (values : AllHaveValues (setting_of rules.flow act (λ j. is_none (rules.missing j)) (seen rules entry)) rules.settings.targets) where
  abbrev o : Outside
  o = record { read = rules.read; act = act }

  abbrev top : ℕ
  top = reaching.top act rules entry H reads differ sound

  is_top : IsTop o entry top
  is_top = reaching.is_top act rules entry H reads differ sound

  abbrev Named : Fault → Type 0
  Named f = IsGrownNamed act rules entry f

  breaks : (f : Fault) → MayBreakOff f → Named f
  breaks f h = inl (inr h)

  abbrev WellListed : Stand → World → Type 0
  WellListed s w = IsListedWell act rules entry H reads differ sound s w

  abbrev IsBase : Stand → Listings → Type 0
  IsBase s L = growing.IsBase act rules entry H differ sound.formed alone values s L

  -- signs that the entry didn't have are those of jobs that are derived with these listings
  abbrev pub HasOwn : Listings → World → Type 0
  HasOwn L w = HasOwnSigns (seen rules entry) (seen rules w) (derived_by rules entry L)

  -- What holds at a stand at which no fault has come: its plan is in force; the listings of the plans before are meant, and right; and the jobs whose children
  -- run are derived with them, as are those of which there are signs.
  pub record IsPoint (before : List Event) (s : Stand) : Type 0 where
    pub at : IsReached o rules entry top before s
    pub well : WellListed s (run entry before)
    pub clear : WasClear act rules entry s (run entry before)
    pub base : IsBase s s.from
    pub signs : HasOwn s.from (run entry before)

  -- ## A refusal of a chain of plans

  module _ (before : List Event) (t : Stand) (at : IsReached o rules entry top before t) (children : HasChildren t (run entry before)) (once : IsOnce t) where
    abbrev v : World
    v = run entry before

    midway : Midway o entry H at.state v
    midway = holds_midway o entry H top before at.state differ sound is_top at.come.follows at.come.runs

    pub chain_here : (L : Listings) (f : Fault) → IsBase t L → HasOwn L v → ChainRefuses rules (seen rules v) (progress_of v t.begun) L f → Named f
    chain_here L f base own chain =
        growing.chain_named act rules entry H differ sound.formed alone values v (formed_run entry before sound.formed)
        (midway_keeps_sources o rules entry H at.state v refl midway) t at.state midway at.is_state children once
        (sound_now o entry H top before at.state differ sound is_top at.come.follows at.come.runs) L f base own chain

    -- what is refused at a stand with the same jobs
    pub refused_here :
        (u : Stand) (L : Listings) (events : List Event) (f : Fault) → t.begun ≡ u.begun → (is_rest v u.begun ≡ true → u.from ≡ L) → IsBase t L → HasOwn L v →
        Refuses rules entry u v events f → Named f
    refused_here u L events f same from base own (PlansAreRefused g rest chain) =
        chain_here L f base own
        (subst (λ K. ChainRefuses rules (seen rules v) (progress_of v t.begun) K f) (from rest)
        (subst (λ bs. ChainRefuses rules (seen rules v) (progress_of v bs) u.from f) (sym same) chain))
    refused_here u L events f same from base own (NoSerial e rest next full) = breaks fault.Serials NoneLeft
    refused_here u L events f same from base own (LongRecord e out before after rest next fits split short long) = breaks _ (TooLongRecord _ _)

  -- ## A stand whose plan is in force

  module _ (before : List Event) (s : Stand) (at : IsReached o rules entry top before s) (well : WellListed s (run entry before))
      (clear : WasClear act rules entry s (run entry before)) where
    all_so_far : growing.AreMeantAt act rules entry H differ sound.formed alone values (lists s)
    all_so_far = all_meant act rules entry H reads differ sound before s at well (clear_force act rules entry s (run entry before) clear)

    -- all listings so far may begin a chain at a stand whose children are jobs that are derived with them
    clear_base : (t : Stand) → Each (IsDerivedStill rules entry (standing t (lists s))) t.runs → IsBase t (lists s)
    clear_base t running =
        record {
          meant = all_so_far;
          right = λ image free.
              stand_right act rules entry sound.formed s (run entry before) (formed_run entry before sound.formed)
              (midway_keeps_sources o rules entry H at.state (run entry before) refl (midway before s at well.children well.once)) clear all_so_far;
          running = running;
        }

  -- ## From a point

  module _ (before : List Event) (s : Stand) (point : IsPoint before s) where
    abbrev w : World
    w = run entry before

    formed : IsFormed w
    formed = formed_run entry before sound.formed

    same : SameSources (seen rules entry) (seen rules w)
    same = midway_keeps_sources o rules entry H point.at.state w refl (midway before s point.at point.well.children point.well.once)

    -- ## Signs

    in_force : (plan : Plan) × (s.plan ≡ Some plan)
    in_force = clear_plan rules s point.clear.there point.clear.events point.clear.formed point.clear.clear

    abbrev plan_now : Plan
    plan_now = in_force.0

    lists_now : lists s ≡ plan_now.lists
    lists_now = ap (λ p. lists_of p s.from) in_force.1

    last_now : LastPlan rules.flow (seen rules w) rules.settings (progress_of w s.begun) s.from plan_now
    last_now = subst (IsInForce rules w s.begun s.from) in_force.1 (clear_force act rules entry s w point.clear)

    -- all listings so far are those of the plans before and further ones
    pub further : (more : Listings) × (lists s ≡ s.from ++ more)
    further =
        let m = last_more rules.flow (seen rules w) rules.settings (progress_of w s.begun) s.from plan_now last_now in (m.0, lists_now ∙ m.1)

    derives_now : derivation rules.flow (seen rules w) (lists s) rules.settings.targets ≡ Derived (derived_by rules entry (lists s))
    derives_now =
        let is = last_is rules.flow (seen rules w) rules.settings (progress_of w s.begun) s.from plan_now last_now in
        let are =
        ap (λ X. jobs rules.flow X plan_now.lists rules.settings.targets)
        (sources_alike (seen rules entry) (seen rules w) (seen_is_complete rules.read entry sound.formed) (seen_is_complete rules.read w formed) same)
        ∙ (derived rules.flow (seen rules w) plan_now.lists rules.settings.targets plan_now.jobs (seen_is_complete rules.read w formed) is.derived).1 in
        subst (λ L. derivation rules.flow (seen rules w) L rules.settings.targets ≡ Derived (derived_by rules entry L)) (sym lists_now)
        (is.derived ∙ ap Derived (sym are))

    pub own_now : HasOwn (lists s) w
    own_now =
        signs_on rules.flow (sources_of (seen rules entry)) s.from further.0 (lists s) rules.settings.targets (seen rules entry) (seen rules w) further.1
        point.signs

    -- so it is once calls of a derived job were made
    own_later : (j : Job) → IsIn (derived_by rules entry (lists s)) j → (fs : List Event) → AreOwnCalls j w fs → HasOwn (lists s) (run w fs)
    own_later j ij fs calls =
        signs_kept rules (seen rules entry) (seen rules w) (lists s) (derived_by rules entry (lists s)) (seen_is_complete rules.read w formed) derives_now j ij w
        fs calls own_now

    -- all listings so far may begin a chain at a stand whose children are jobs that are derived with them
    base_for : (t : Stand) → Each (IsDerivedStill rules entry (standing t (lists s))) t.runs → IsBase t (lists s)
    base_for = clear_base before s point.at point.well point.clear

    running_now : Each (IsDerivedStill rules entry (standing s (lists s))) s.runs
    running_now =
        each_on (IsDerivedStill rules entry s) (IsDerivedStill rules entry (standing s (lists s)))
        (λ g d. record { begun = d.begun; has_begun = d.has_begun; recipe = d.recipe; logs = d.logs; derived = d.derived; listed = d.listed }) s.runs
        point.at.derived.running

    -- ## A job begins

    module _ (es : List Event) (deeds : List Deed) (t : Stand) (h : HasBegun rules entry s w before es deeds t) where
      abbrev new : Begun
      new = begun_of rules entry (moment_of s w before) h.job

      next : IsStarting rules s w h.job
      next = starting rules s w before h.job h.to_begin.next

      abbrev plan : Plan
      plan = next.plan

      lists_are : lists s ≡ plan.lists
      lists_are = ap (λ p. lists_of p s.from) next.in_force

      last : LastPlan rules.flow (seen rules w) rules.settings (progress_of w s.begun) s.from plan
      last = subst (IsInForce rules w s.begun s.from) next.in_force h.to_begin.next.clear.planned

      new_derived : IsIn (derived_by rules entry (lists s)) h.job.0
      new_derived =
          subst (λ L. IsIn (derived_by rules entry L) h.job.0) (sym lists_are)
          (subst (λ js. IsIn js h.job.0)
          (sym
          (ap (λ X. jobs rules.flow X plan.lists rules.settings.targets)
          (sources_alike (seen rules entry) (seen rules w) (seen_is_complete rules.read entry sound.formed) (seen_is_complete rules.read w formed) same)
          ∙ (derived rules.flow (seen rules w) plan.lists rules.settings.targets plan.jobs (seen_is_complete rules.read w formed) next.is_plan.derived).1))
          next.planned)

      new_listed : IsListed (seen rules entry) (lists s) h.job.0
      new_listed =
          subst (λ L. IsListed (seen rules entry) L h.job.0) (sym lists_are)
          (each_of (λ d. (is_source (seen rules entry) d ≡ true) ⊎ (listing plan.lists d ≢ None)) (gathers_from h.job.0) (λ d g. go d
          (at_hand_is_listed rules.flow (seen rules w) rules.settings (progress_of w s.begun) plan (seen_is_complete rules.read w formed) next.is_plan h.job.0 d
          (last_done rules (seen rules w) (progress_of w s.begun) s.from plan last) next.planned g
          (all_in (is_at_hand (seen rules w) rules.settings (progress_of w s.begun) plan) (in_paths h.job.0.recipe ++ awaits plan h.job.0) d next.at_hand
          (in_right d (in_paths h.job.0.recipe) (awaits plan h.job.0)
          (in_left d (gathers_from h.job.0) (Rattle.std.specs.List.flat_map (directory_over plan) (in_paths h.job.0.recipe ++ gathers_from h.job.0)) g))))))
        where
          go :
              (d : Path) → (is_source (seen rules w) d ≡ true) ⊎ (listing plan.lists d ≢ None) →
              (is_source (seen rules entry) d ≡ true) ⊎ (listing plan.lists d ≢ None)
          go d (inl source) =
              inl
              (ap (λ X. X.is d)
              (sources_alike (seen rules entry) (seen rules w) (seen_is_complete rules.read entry sound.formed) (seen_is_complete rules.read w formed) same)
              ∙ source)
          go d (inr known) = inr known

      kept : IsKept (begun_stand rules entry s w before h.job h.going) t
      kept =
          kept_then (begun_stand rules entry s w before h.job h.going) h.next t
          (replanned_kept rules (begun_stand rules entry s w before h.job h.going) h.next (run w es) h.replanned)
          (goes_kept rules entry h.next t (run w es) (before ++ es) h.goes_by)

      still : (g : Underway) → IsIn (s.runs ++ h.going ∷ []) g → IsDerivedStill rules entry (standing t (lists s)) g
      still g i = go (in_either_end s.runs g i)
        where
          in_either_end : (gs : List Underway) (g : Underway) → IsIn (gs ++ h.going ∷ []) g → IsIn gs g ⊎ (g ≡ h.going)
          in_either_end [] g (inl e) = inr e
          in_either_end [] g (inr none) = absurd none
          in_either_end (x ∷ gs) g (inl e) = inl (inl e)
          in_either_end (x ∷ gs) g (inr i) = elim (in_either_end gs g i) [ inl k ↦ inl (inr k) | inr e ↦ inr e ]

          go : IsIn s.runs g ⊎ (g ≡ h.going) → IsDerivedStill rules entry (standing t (lists s)) g
          go (inl k) =
              let d = each_in (IsDerivedStill rules entry (standing s (lists s))) s.runs g running_now k in
              record {
                begun = d.begun;
                has_begun = subst (λ bs. IsIn bs d.begun) (sym kept.begun) (in_left d.begun s.begun (new ∷ []) d.has_begun);
                recipe = d.recipe;
                logs = d.logs;
                derived = d.derived;
                listed = d.listed;
              }
          go (inr e) =
              record {
                begun = new;
                has_begun = subst (λ bs. IsIn bs new) (sym kept.begun) (in_right new s.begun (new ∷ []) (inl refl));
                recipe = sym (ap (λ (x : Underway). x.recipe) (e ∙ h.is));
                logs = sym (ap (λ (x : Underway). x.logs) (e ∙ h.is));
                derived = new_derived;
                listed = new_listed;
              }

      pub begun_base : IsBase t (lists s)
      begun_base =
          base_for t
          (subst (Each (IsDerivedStill rules entry (standing t (lists s)))) (sym kept.runs)
          (each_of (IsDerivedStill rules entry (standing t (lists s))) (s.runs ++ h.going ∷ []) still))

      pub begun_own : HasOwn (lists s) (run w es)
      begun_own = own_later h.job.0 new_derived es (begin_calls rules entry w s t before es deeds h)

      pub begun_named :
          IsReached o rules entry top (before ++ es) t → HasChildren t (run w es) → s.halted ≡ None → (f : Fault) → t.halted ≡ Some f → Named f
      begun_named at children none f came =
          faulted.goes_named rules entry Named breaks h.next t (run w es) (before ++ es) f h.goes_by
          (replanned_halted rules _ h.next (run w es) h.replanned ∙ none) came
          (λ refuses.
          refused_here (before ++ es) t at (subst (HasChildren t) (sym (run_more entry before es)) children)
          (begun_once rules entry s t w before es deeds point.well.once h) h.next (lists s) (before ++ es) f
          (goes_kept rules entry h.next t (run w es) (before ++ es) h.goes_by).begun
          (λ rest. rest_from rules (with_job new h.going s) h.next (run w es) h.replanned
          (ap (λ x. is_rest x h.next.begun) (sym (run_more entry before es)) ∙ rest))
          begun_base (subst (HasOwn (lists s)) (sym (run_more entry before es)) begun_own)
          (subst (λ x. Refuses rules entry h.next x (before ++ es) f) (sym (run_more entry before es)) refuses))

    -- ## A job is closed

    module _ (es : List Event) (deeds : List Deed) (t : Stand) (h : HasClosed rules entry s w before es deeds t) where
      abbrev closing : List Event
      closing = wait_event h.ended h.left ∷ h.closing

      abbrev parted : Stand
      parted = without_child (seen rules (after w (wait_event h.ended h.left))) h.going h.ended.status s

      parted_still : Each (IsDerivedStill rules entry (standing parted (lists s))) parted.runs
      parted_still =
          each_on (IsDerivedStill rules entry parted) (IsDerivedStill rules entry (standing parted (lists s)))
          (λ g d. record { begun = d.begun; has_begun = d.has_begun; recipe = d.recipe; logs = d.logs; derived = d.derived; listed = d.listed }) parted.runs
          (ended rules entry sound.formed s parted (seen rules (after w (wait_event h.ended h.left))) h.going h.ended.status refl point.at.derived).running

      -- a stand at which the same jobs have begun and run
      closed_base : (u : Stand) → IsKept parted u → IsBase u (lists s)
      closed_base u kept =
          base_for u
          (subst (Each (IsDerivedStill rules entry (standing u (lists s)))) (sym kept.runs)
          (each_on (IsDerivedStill rules entry (standing parted (lists s))) (IsDerivedStill rules entry (standing u (lists s)))
          (λ g d. still_with rules entry parted u (lists s) g kept.begun d) parted.runs parted_still))

      next_kept : IsKept parted h.next
      next_kept = replanned_kept rules parted h.next (run w closing) h.replanned

      pub closed_kept : IsKept parted t
      closed_kept = kept_then parted h.next t next_kept (answer_kept rules entry h.answer h.next t _ _ h.goes_by)

      -- the same step, but for want of memory right afterwards
      abbrev short : Stand
      short = halted_by fault.OutOfMemory h.next

      short_closed : HasClosed rules entry s w before (closing ++ []) deeds short
      short_closed =
          record {
            going = h.going;
            begun = h.begun;
            ended = h.ended;
            left = h.left;
            closing = h.closing;
            tending = [];
            how = h.how;
            answer = Err OutOfMemory;
            next = h.next;
            unbroken = h.unbroken;
            waited = h.waited;
            is_job = h.is_job;
            none_left = h.none_left;
            events = refl;
            closed = h.closed;
            tended = Unguarded;
            deeds_are = h.deeds_are;
            replanned = h.replanned;
            goes_by = refl;
          }

      short_kept : IsKept parted short
      short_kept = kept_then parted h.next short next_kept (record { begun = refl; runs = refl })

      module _ (follows : Follows act w es) where
        abbrev job_then : Job
        job_then = closed_job act rules entry H top differ sound is_top before s point.at es deeds t h follows

        closing_own : HasOwn (lists s) (run w closing)
        closing_own =
            own_later job_then (closed_in act rules entry H top differ sound is_top before s point.at es deeds t h follows) closing
            (closing_calls act rules entry H top differ sound is_top before s point.at es deeds t h follows)

        pub closed_own : HasOwn (lists s) (run w es)
        closed_own =
            own_later job_then (closed_in act rules entry H top differ sound is_top before s point.at es deeds t h follows) es
            (closed_calls act rules entry H top differ sound is_top before s point.at es deeds t h follows)

      pub closed_named : Follows act w es → s.halted ≡ None → (f : Fault) → t.halted ≡ Some f → Named f
      closed_named follows none f came =
          faulted.answer_named rules entry Named breaks h.answer h.next t (run w closing) (before ++ closing) f h.goes_by
          (replanned_halted rules _ h.next (run w closing) h.replanned ∙ none) came
          (λ refuses.
          refused_here (before ++ closing) short at_short
          (subst (HasChildren short) (sym (run_more entry before closing)) short_children) once_short h.next (lists s) (before ++ closing) f refl
          (λ rest. rest_from rules parted h.next (run w closing) h.replanned
          (ap (λ x. is_rest x h.next.begun) (sym (run_more entry before closing)) ∙ rest))
          (closed_base short short_kept) (subst (HasOwn (lists s)) (sym (run_more entry before closing)) (closing_own follows))
          (subst (λ x. Refuses rules entry h.next x (before ++ closing) f) (sym (run_more entry before closing)) refuses))
        where
          at_short : IsReached o rules entry top (before ++ closing) short
          at_short =
              subst (λ xs. IsReached o rules entry top (before ++ xs) short) (append-nil closing)
              (reaching.next_reached act rules entry H reads differ sound before (closing ++ []) s short deeds (Closes short_closed) point.at
              (subst (Follows act w) (sym (append-nil closing)) (follows_split act w closing h.tending (subst (Follows act w) h.events follows)).0))

          short_children : HasChildren short (run w closing)
          short_children =
              subst (λ xs. HasChildren short (run w xs)) (append-nil closing)
              (reaching.next_children act rules entry H reads differ sound before (closing ++ []) s short deeds (Closes short_closed) point.well.children)

          once_short : IsOnce short
          once_short = ended_once rules entry s short w before (closing ++ []) deeds point.well.once short_closed

  -- ## Spent outputs are removed

  -- what holds of a stand as it comes about
  record IsSeat (before : List Event) (s : Stand) : Type 0 where
    at : IsReached o rules entry top before s
    once : IsOnce s
    children : HasChildren s (run entry before)
    base : IsBase s s.from

  -- the same listings at a stand with the same jobs
  kept_base : (s t : Stand) (L : Listings) → IsKept s t → IsBase s L → IsBase t L
  kept_base s t L kept base =
      record {
        meant = base.meant;
        right = base.right;
        running =
            subst (Each (IsDerivedStill rules entry (standing t L))) (sym kept.runs)
            (each_on (IsDerivedStill rules entry (standing s L)) (IsDerivedStill rules entry (standing t L))
            (λ g d. still_with rules entry s t L g kept.begun d) s.runs base.running);
      }

  -- at a clear stand all listings are those of the plans before and further ones
  more_lists : (before : List Event) (s : Stand) → IsClear rules s (run entry before) before → (M : Listings) × (lists s ≡ s.from ++ M)
  more_lists before s clear =
      let p = clear_plan rules s (run entry before) before (formed_run entry before sound.formed) clear in
      let m =
      last_more rules.flow (seen rules (run entry before)) rules.settings (progress_of (run entry before) s.begun) s.from p.0
      (subst (IsInForce rules (run entry before) s.begun s.from) p.1 clear.planned) in
      (m.0, ap (λ x. lists_of x s.from) p.1 ∙ m.1)

  replanned_base : (s t : Stand) (v : World) → IsReplanned rules s v t → IsBase t (lists s) → IsBase t s.from → IsBase t t.from
  replanned_base s t v (AtRest made rest force) now before = now
  replanned_base s t v (Between unrested) now before = before

  -- one more was removed
  module _ (before : List Event) (s : Stand) (seat : IsSeat before s) (clear : IsClear rules s (run entry before) before) (p : Path) (e : Event) (t : Stand)
      (spent : is_spent_now rules (moment_of s (run entry before) before) p ≡ true) (listed : IsAsListed (seen rules (run entry before)) p)
      (done : HasDone (Remove p ∷ []) (e ∷ [])) (follows : Follows act (run entry before) (e ∷ []))
      (plans : IsReplanned rules s (after (run entry before) e) t) where
    was_clear : WasClear act rules entry s (run entry before)
    was_clear =
        record {
          there = run entry before;
          events = before;
          since = [];
          is = refl;
          formed = formed_run entry before sound.formed;
          follows = tt;
          mild = tt;
          clear = clear;
        }

    well_here : WellListed s (run entry before)
    well_here = record { once = seat.once; children = seat.children; meant = seat.base.meant }

    base_here : IsBase s (lists s)
    base_here =
        clear_base before s seat.at well_here was_clear s
        (each_on (IsDerivedStill rules entry s) (IsDerivedStill rules entry (standing s (lists s)))
        (λ g d. record { begun = d.begun; has_begun = d.has_begun; recipe = d.recipe; logs = d.logs; derived = d.derived; listed = d.listed }) s.runs
        seat.at.derived.running)

    kept_one : IsKept s t
    kept_one = replanned_kept rules s t (after (run entry before) e) plans

    next_seat : IsSeat (before ++ e ∷ []) t
    next_seat =
        record {
          at = one_reached act rules entry H top differ sound is_top before s seat.at p clear spent listed e t done follows plans;
          once = kept_once s t kept_one seat.once;
          children =
              ap (λ (x : World). x.children) (run_more entry before (e ∷ []))
              ∙ (quiet_children e.call (run entry before).children (subst IsQuiet (sym done.0) tt)
              ∙ (seat.children ∙ ap (λ gs. map child_of gs) (sym kept_one.runs)));
          base =
              replanned_base s t (after (run entry before) e) plans
              (kept_base s t (lists s) kept_one base_here)
              (kept_base s t s.from kept_one seat.base);
        }

  removed_seat :
      (s t : Stand) (w : World) (before : List Event) (paths : List Path) (es : List Event) → AreRemoved rules s w before paths es t → w ≡ run entry before →
      IsSeat before s → Follows act w es → IsSeat (before ++ es) t
  removed_seat s t w before paths es (NoMore s1 w1 before1) world seat follows = subst (λ xs. IsSeat xs s1) (sym (append-nil before1)) seat
  removed_seat s t w before paths es (OneMore s1 t1 u1 w1 before1 p ps e es1 clear spent listed done plans rest) world seat follows =
      let clear_here : IsClear rules s1 (run entry before1) before1 = subst (λ v. IsClear rules s1 v before1) world clear in
      let spent_here : is_spent_now rules (moment_of s1 (run entry before1) before1) p ≡ true =
      subst (λ v. is_spent_now rules (moment_of s1 v before1) p ≡ true) world spent in
      let listed_here : IsAsListed (seen rules (run entry before1)) p = subst (λ v. IsAsListed (seen rules v) p) world listed in
      let follows_here : Follows act (run entry before1) (e ∷ []) = subst (λ v. Follows act v (e ∷ [])) world (follows.0, tt) in
      let plans_here : IsReplanned rules s1 (after (run entry before1) e) t1 = subst (λ v. IsReplanned rules s1 (after v e) t1) world plans in
      let there : after w1 e ≡ run entry (before1 ++ e ∷ []) = ap (λ v. after v e) world ∙ sym (run_more entry before1 (e ∷ [])) in
      subst (λ xs. IsSeat xs u1) (append_assoc before1 (e ∷ []) es1)
      (removed_seat t1 u1 (after w1 e) (before1 ++ e ∷ []) ps es1 rest there
      (next_seat before1 s1 seat clear_here p e t1 spent_here listed_here done follows_here plans_here) follows.1)

  -- the listings of the plans before are those from which the removals began, and further ones
  replanned_more : (s t : Stand) (v : World) (more : Listings) → IsReplanned rules s v t → lists s ≡ s.from ++ more → (M : Listings) × (t.from ≡ s.from ++ M)
  replanned_more s t v more (AtRest made rest force) all = (more, all)
  replanned_more s t v more (Between unrested) all = ([], sym (append-nil s.from))

  removed_more :
      (s t : Stand) (w : World) (before : List Event) (paths : List Path) (es : List Event) → AreRemoved rules s w before paths es t → w ≡ run entry before →
      IsSeat before s → Follows act w es → (M : Listings) × (t.from ≡ s.from ++ M)
  removed_more s t w before paths es (NoMore s1 w1 before1) world seat follows = ([], sym (append-nil s1.from))
  removed_more s t w before paths es (OneMore s1 t1 u1 w1 before1 p ps e es1 clear spent listed done plans rest) world seat follows =
      let clear_here : IsClear rules s1 (run entry before1) before1 = subst (λ v. IsClear rules s1 v before1) world clear in
      let spent_here : is_spent_now rules (moment_of s1 (run entry before1) before1) p ≡ true =
      subst (λ v. is_spent_now rules (moment_of s1 v before1) p ≡ true) world spent in
      let listed_here : IsAsListed (seen rules (run entry before1)) p = subst (λ v. IsAsListed (seen rules v) p) world listed in
      let follows_here : Follows act (run entry before1) (e ∷ []) = subst (λ v. Follows act v (e ∷ [])) world (follows.0, tt) in
      let plans_here : IsReplanned rules s1 (after (run entry before1) e) t1 = subst (λ v. IsReplanned rules s1 (after v e) t1) world plans in
      let there : after w1 e ≡ run entry (before1 ++ e ∷ []) = ap (λ v. after v e) world ∙ sym (run_more entry before1 (e ∷ [])) in
      let more = more_lists before1 s1 clear_here in
      let one = replanned_more s1 t1 (after w1 e) more.0 plans more.1 in
      let next =
      removed_more t1 u1 (after w1 e) (before1 ++ e ∷ []) ps es1 rest there
      (next_seat before1 s1 seat clear_here p e t1 spent_here listed_here done follows_here plans_here) follows.1 in
      (one.0 ++ next.0, next.1 ∙ (ap (λ L. L ++ next.0) one.1 ∙ append_assoc s1.from one.0 next.0))

  removed_halted :
      (s t : Stand) (w : World) (before : List Event) (paths : List Path) (es : List Event) → AreRemoved rules s w before paths es t → t.halted ≡ s.halted
  removed_halted s t w before paths es (NoMore s1 w1 before1) = refl
  removed_halted s t w before paths es (OneMore s1 t1 u1 w1 before1 p ps e es1 clear spent listed done plans rest) =
      removed_halted t1 u1 _ _ ps es1 rest ∙ replanned_halted rules s1 t1 _ plans

  goes_from : (s t : Stand) (w : World) (events : List Event) → GoesBy rules entry s w events t → t.from ≡ s.from
  goes_from s t w events (GoesOn clear) = refl
  goes_from s t w events (IsRefused f unhalted refused) = refl
  goes_from s t w events LacksMemory = refl
  goes_from s t w events (WasHalted was) = refl

  pub answer_from :
      (answer : Result (Unit {0}) KeepFault) (s t : Stand) (w : World) (events : List Event) → GoesByAnswer rules entry answer s w events t → t.from ≡ s.from
  answer_from (Ok u) s t w events h = goes_from s t w events h
  answer_from (Err OutOfMemory) s t w events h = ap (λ (x : Stand). x.from) h
  answer_from (Err Device) s t w events h = ap (λ (x : Stand). x.from) h

  -- ## One step

  module _ (before es : List Event) (s t : Stand) (deeds : List Deed) (step : Step rules entry s (run entry before) before es deeds t) (point : IsPoint before s)
      (follows : Follows act (run entry before) es) (none : s.halted ≡ None) where
    abbrev was : World
    was = run entry before

    reached_next : IsReached o rules entry top (before ++ es) t
    reached_next = reaching.next_reached act rules entry H reads differ sound before es s t deeds step point.at follows

    children_next : HasChildren t (run was es)
    children_next = reaching.next_children act rules entry H reads differ sound before es s t deeds step point.well.children

    seat : IsSeat before s
    seat = record { at = point.at; once = point.well.once; children = point.well.children; base = point.base }

    module _ (h : HasSpent rules entry s was before es deeds t) where
      last_seat : IsSeat (before ++ h.removing) h.last
      last_seat =
          removed_seat s h.last was before h.paths h.removing h.removed refl seat
          (follows_split act was h.removing h.settling (subst (Follows act was) h.events follows)).0

      -- where no more has gone than is spent signs stay
      left_own : (v : World) → IsLeft act rules entry H top differ sound is_top before s point.at es deeds t h follows v → HasOwn h.last.from v
      left_own v left =
          let stays = aside_stays act rules entry H top differ sound is_top before s point.at es deeds t h follows v left in
          let more =
          removed_more s h.last was before h.paths h.removing h.removed refl seat
          (follows_split act was h.removing h.settling (subst (Follows act was) h.events follows)).0 in
          signs_on rules.flow (sources_of (seen rules entry)) s.from more.0 h.last.from rules.settings.targets (seen rules entry) (seen rules v) more.1
          (signs_stay rules (seen rules entry) (derived_by rules entry s.from) was v (λ q. stays (mark_place q) (λ p path. path-mark p q path))
          (λ q. stays (note_place q) (λ p path. path-note p q path)) (λ q. stays (record_place q) (λ p path. path-record p q path)) point.signs)

      spent_named : (f : Fault) → t.halted ≡ Some f → Named f
      spent_named f came =
          faulted.goes_named rules entry Named breaks h.last t (run was h.removing) (before ++ h.removing) f h.goes_by
          (removed_halted s h.last was before h.paths h.removing h.removed ∙ none) came
          (λ refuses.
          refused_here (before ++ h.removing) h.last last_seat.at last_seat.children last_seat.once h.last h.last.from (before ++ h.removing) f refl
          (λ rest. refl) last_seat.base
          (subst (HasOwn h.last.from) (sym (run_more entry before h.removing))
          (left_own (run was h.removing) (removed_leave act rules entry H top differ sound is_top before s point.at es deeds t h follows)))
          (subst (λ x. Refuses rules entry h.last x (before ++ h.removing) f) (sym (run_more entry before h.removing)) refuses))

      spent_own : HasOwn t.from (run was es)
      spent_own =
          subst (λ L. HasOwn L (run was es)) (sym (goes_from h.last t _ _ h.goes_by))
          (left_own (run was es) (spent_leaves act rules entry H top differ sound is_top before s point.at es deeds t h follows))

      spent_base : IsBase t t.from
      spent_base =
          subst (IsBase t) (sym (goes_from h.last t _ _ h.goes_by))
          (kept_base h.last t h.last.from (goes_kept rules entry h.last t _ _ h.goes_by) last_seat.base)

    step_named : Step rules entry s was before es deeds t → (f : Fault) → t.halted ≡ Some f → Named f
    step_named (Begins h) f came = begun_named before s point es deeds t h reached_next children_next none f came
    step_named (Closes h) f came = closed_named before s point es deeds t h follows none f came
    step_named (Spends h) f came = spent_named h f came
    step_named (Halts h) f came = go h.cause
      where
        why : h.why ≡ f
        why = halted_is s t h.why f (ap (λ (x : Stand). x.halted) h.leaves) none came

        go : ((s.halted ≡ None) × Refuses rules entry s was before h.why) ⊎ ((h.why ≡ fault.Output) ⊎ (h.why ≡ fault.OutOfMemory)) → Named f
        go (inl (unhalted, refuses)) =
            refused_here before s point.at point.well.children point.well.once s s.from before f refl (λ rest. refl) point.base point.signs
            (subst (Refuses rules entry s was before) why refuses)
        go (inr (inl e)) = faulted.by_sink rules entry Named breaks f (sym e ∙ why)
        go (inr (inr e)) = faulted.by_memory rules entry Named breaks f (sym e ∙ why)
    step_named (Leaves h) f came =
        faulted.by_memory rules entry Named breaks f
        (halted_is s t fault.OutOfMemory f (ap (λ (x : Stand). x.halted) h.leaves) none came)
    step_named (BreaksOff h) f came =
        faulted.by_device rules entry Named breaks f
        (halted_is s t fault.Device f (ap (λ (x : Stand). x.halted) h.leaves) none came)
    step_named (ReadsNot h) f came =
        faulted.by_device rules entry Named breaks f
        (halted_is s t fault.Device f (ap (λ (x : Stand). x.halted) h.leaves) none came)
    step_named (BeginsNot h) f came =
        faulted.by_device rules entry Named breaks f
        (halted_is s t fault.Device f (ap (λ (x : Stand). x.halted) h.leaves) none came)
    step_named (SpendsNot h) f came =
        faulted.by_device rules entry Named breaks f
        (halted_is h.last t fault.Device f (ap (λ (x : Stand). x.halted) h.leaves)
        (removed_halted s h.last was before h.paths h.removing h.removed ∙ none) came)
    step_named (Waits h) f came = absurd (point.at.is_state.halted h.broken none)
    step_named (FailsToWait h) f came =
        faulted.by_device rules entry Named breaks f
        (halted_is s t fault.Device f (ap (λ (x : Stand). x.halted) h.leaves) none came)

    -- ## The next point

    module _ (unbroken : IsHaltedIfBroken s) (calm : t.halted ≡ None) where
      well_next : WellListed t (run was es)
      well_next = next_well act rules entry H reads differ sound before es s t deeds step point.at point.well point.clear follows unbroken calm

      clear_next : WasClear act rules entry t (run was es)
      clear_next = step_clear act rules entry s t was before es deeds step (formed_run entry before sound.formed) follows unbroken calm

      begun_from : (h : HasBegun rules entry s was before es deeds t) → t.from ≡ lists s
      begun_from h =
          let clear = answer_clear act rules entry (Ok tt) h.next t (run was es) (before ++ es) h.goes_by calm in
          goes_from h.next t _ _ h.goes_by
          ∙ rest_from rules _ h.next (run was es) h.replanned
          (subst (λ bs. is_rest (run was es) bs ≡ true) (goes_kept rules entry h.next t (run was es) (before ++ es) h.goes_by).begun clear.at_rest)

      closed_from : (h : HasClosed rules entry s was before es deeds t) → t.from ≡ lists s
      closed_from h =
          let clear = answer_clear act rules entry h.answer h.next t _ _ h.goes_by calm in
          answer_from h.answer h.next t _ _ h.goes_by
          ∙ rest_from rules _ h.next _ h.replanned
          (subst (λ bs. is_rest (run was (wait_event h.ended h.left ∷ h.closing)) bs ≡ true) (answer_kept rules entry h.answer h.next t _ _ h.goes_by).begun
          clear.at_rest)

      base_next : IsBase t t.from × HasOwn t.from (run was es)
      base_next = elim (unhalted_step act rules entry s t was before es deeds step unbroken calm) [
        | inl h ↦
            subst (λ L. IsBase t L × HasOwn L (run was es)) (sym (begun_from h))
            (begun_base before s point es deeds t h, begun_own before s point es deeds t h)
        | inr (inl h) ↦
            subst (λ L. IsBase t L × HasOwn L (run was es)) (sym (closed_from h))
            (closed_base before s point es deeds t h t (closed_kept before s point es deeds t h), closed_own before s point es deeds t h follows)
        | inr (inr h) ↦ (spent_base h, spent_own h)
      ]

      next_point : IsPoint (before ++ es) t
      next_point =
          record {
            at = reached_next;
            well = subst (WellListed t) (sym (run_more entry before es)) well_next;
            clear = subst (WasClear act rules entry t) (sym (run_more entry before es)) clear_next;
            base = base_next.0;
            signs = subst (HasOwn t.from) (sym (run_more entry before es)) base_next.1;
          }

  -- ## All steps

  one_of :
      (s1 t1 u1 : Stand) (w1 : World) (before1 es1 fs : List Event) (ds more : List Deed) (f : Fault) → Step rules entry s1 w1 before1 es1 ds t1 →
      Steps rules entry t1 (run w1 es1) (before1 ++ es1) fs more u1 → w1 ≡ run entry before1 → IsPoint before1 s1 → s1.halted ≡ None → IsHaltedIfBroken s1 →
      Follows act w1 (es1 ++ fs) → u1.halted ≡ Some f →
      (run w1 es1 ≡ run entry (before1 ++ es1) → IsPoint (before1 ++ es1) t1 → t1.halted ≡ None → IsHaltedIfBroken t1 → Follows act (run w1 es1) fs →
      Named f) →
      Named f
  one_of s1 t1 u1 w1 before1 es1 fs ds more f step steps world point none unbroken follows came again = go t1.halted refl
    where
      both : Follows act w1 es1 × Follows act (run w1 es1) fs
      both = follows_split act w1 es1 fs follows

      here : Step rules entry s1 (run entry before1) before1 es1 ds t1
      here = subst (λ v. Step rules entry s1 v before1 es1 ds t1) world step

      follows_here : Follows act (run entry before1) es1
      follows_here = subst (λ v. Follows act v es1) world both.0

      go : (x : Option Fault) → t1.halted ≡ x → Named f
      go None e =
          again (ap (λ v. run v es1) world ∙ sym (run_more entry before1 es1))
          (next_point before1 es1 s1 t1 ds here point follows_here none unbroken e) e (step_broken act rules entry s1 t1 w1 before1 es1 ds step unbroken) both.1
      go (Some g) e =
          subst Named (same_fault g f (sym (first_fault_stays rules entry t1 u1 (run w1 es1) (before1 ++ es1) fs more steps g e).0 ∙ came))
          (step_named before1 es1 s1 t1 ds here point follows_here none here g e)

  pub all_named :
      (s t : Stand) (w : World) (before es : List Event) (deeds : List Deed) (f : Fault) → Steps rules entry s w before es deeds t → w ≡ run entry before →
      IsPoint before s → s.halted ≡ None → IsHaltedIfBroken s → Follows act w es → t.halted ≡ Some f → Named f
  all_named s t w before es deeds f (Done s1 w1 before1) world point none unbroken follows came = absurd (none_some f (sym none ∙ came))
  all_named s t w before es deeds f (Then s1 t1 u1 w1 before1 es1 fs ds more step steps) world point none unbroken follows came =
      one_of s1 t1 u1 w1 before1 es1 fs ds more f step steps world point none unbroken follows came
      (λ there next still broken rest. all_named t1 u1 (run w1 es1) (before1 ++ es1) fs more f steps there next still broken rest came)
