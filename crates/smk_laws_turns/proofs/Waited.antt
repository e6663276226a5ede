-- The steps that wait for a child.
use Rattle.std.proofs.Common.{◌≡◌, ◌≢◌, ℕ, true, false, List, [], ◌∷◌, ◌++◌, refl, sym, ap, subst, ◌∙◌, Ok, Err, Result}
use Rattle.smk_world.specs.declared.event.Call.TheVariants.{Waited}
use Rattle.smk_world.specs.declared.event.Change.{Change}
use Rattle.smk_world.specs.declared.event.Ended.{Ended}
use Rattle.smk_world.specs.declared.event.Event.{Event}
use Rattle.smk_world.specs.declared.recipe.Recipe.{Recipe}
use Rattle.smk_world.specs.World.{World, after, run, out_paths}
use Rattle.smk_world.specs.Runs.{Follows}
use Rattle.smk_world.specs.Trees.{Each, IsIn}
use Rattle.smk_world.proofs.Runs.{run_append}
use Rattle.smk_store.specs.Soundness.{Outside}
use Rattle.smk_store.specs.Trust.{Versions}
use Rattle.smk_flow.specs.declared.job.Job.{Job}
use Rattle.smk_keep.specs.declared.fault.KeepFault.{KeepFault}
use Rattle.smk_keep.specs.declared.fault.KeepFault.TheVariants.{Device, OutOfMemory}
use Rattle.smk_laws_protocol.specs.Protocol.{OpenJob, RunState, Running, Recorded, Ended as EndedPhase, Runs, Step, FailWait, runs}
use Rattle.smk_laws_protocol.specs.Midway.{AllStrangers, InPhase, Midway}
use Rattle.smk_laws_protocol.proofs.Basics.{each_in, each_of, each_on, in_here}
use Rattle.smk_report.specs.declared.fault.Fault.TheVariants as fault
use Rattle.smk_job.specs.Jobs.{Underway}
use Rattle.smk_run.specs.declared.ending.Ending.{Ending}
use Rattle.smk_run.specs.declared.ending.Ending.TheVariants.{Good, Status, NoOutput, WrongKind, BadMember}
use Rattle.smk_run.specs.Closings.{wait_event, IsClosedBy}
use Rattle.smk_safe.proofs.Done.{follows_split}
use Rattle.smk_laws_job.specs.Laws.{MayFinish, stopped}
use Rattle.smk_laws_job.proofs.FinishRuns.{recording}
use Rattle.smk_laws_job.proofs.Finished.{IsLeftWell, left_well}
use Rattle.smk_laws_job.proofs.Onward.{without}
use Rattle.smk_safe.proofs.Joining.{runs_then}
use Rattle.smk_drive.specs.Moments.{Rules, Begun, seen}
use Rattle.smk_drive_course.specs.Stands.{Stand, halted_by, without_child}
use Rattle.smk_drive_course.specs.Steps.{Deed, GoesByAnswer, HasClosed, IsWaitFor, guards_of}
use Rattle.smk_drive_course.specs.Breaks.{HasBrokenOff, HasFailedToWait, HasLeft, HasWaited}
use Rattle.smk_laws_moments.specs.Opened.{IsOpen, IsStateOf, opened}
use Rattle.smk_laws_turns.specs.Following.{GuardsAreOutputs, HasCome, IsGiven, LeadsTo}
use Rattle.smk_laws_turns.proofs.Closing.{broken_runs, closed, closed_runs, left_runs, may_finish, wait_step, waited}
use Rattle.smk_laws_turns.proofs.Coming.{come_on, midway, one_step, own_folder_free, step_then, tree_after}
use Rattle.smk_laws_turns.proofs.Pairs.{IsAside, aside, parted}
use Rattle.smk_laws_turns.proofs.StandStates.{broken_is, goes_later, halted_later, halted_some, replanned_later, state_broken, state_later, state_left, state_without}
use Rattle.smk_laws_turns.proofs.TendingOn.{tended, tending_runs}

module _ (o : Outside) (rules : Rules) (entry : World) (H : Versions) (top : ℕ) (given : IsGiven o rules entry H top) (before : List Event) (s : Stand)
    (state : RunState)
    (come : HasCome o entry top before state) (is_state : IsStateOf rules entry s state) where
  abbrev w : World
  w = run entry before

  here : Midway o entry H state w
  here = midway o entry H top given.differ given.sound given.is_top before state come

  -- what holds after events of a run of the protocol
  pub midway_on : (es : List Event) (end : RunState) → Follows o.act w es → Runs o state w es end → Midway o entry H end (run w es)
  midway_on es end follows runs =
      subst (Midway o entry H end) (run_append entry before es)
      (midway o entry H top given.differ given.sound given.is_top (before ++ es) end (come_on o entry top before es state end come follows runs))

  -- ## The child of a job has ended

  module _ (g : Underway) (ended : Ended) (left : List Change) (waits : IsWaitFor g ended s) where
    child : IsOpen s state.jobs g
    child = each_in (IsOpen s state.jobs) s.runs g is_state.running waits.ran

    abbrev mine : OpenJob
    mine = opened g child.kept (Running g.number)

    parts : (js : List OpenJob) × (ks : List OpenJob) × (state.jobs ≡ js ++ mine ∷ ks)
    parts = parted state.jobs mine child.is_open

    abbrev over : OpenJob
    over = opened g child.kept (EndedPhase ended.status)

    abbrev mid : RunState
    mid = waited o state parts.0 parts.1 g child.kept ended.status

    abbrev shut : RunState
    shut = closed o state parts.0 parts.1 g child.kept

    abbrev v : World
    v = after w (wait_event ended left)

    abbrev next : Stand
    next = without_child (seen rules v) g ended.status s

    step : Step o state w (wait_event ended left) mid
    step = wait_step o state parts.0 parts.1 g child.kept w ended left parts.2 waits.number

    -- its job open no more
    shut_state : IsStateOf rules entry next shut
    shut_state = state_without rules entry (seen rules v) s state parts.0 parts.1 g child.kept ended.status is_state parts.2 here.apart

    may : Follows o.act w (wait_event ended left ∷ []) → MayFinish o v over
    may follows =
        let m = midway_on (wait_event ended left ∷ []) mid follows (one_step o state mid w (wait_event ended left) step) in
        may_finish o v g child.kept ended.status given.reads child.writable child.short m.images.formed follows.0.tree (own_folder_free o entry H mid v m)

    beside : Each (IsAside mine) (parts.0 ++ parts.1)
    beside = each_of (IsAside mine) (parts.0 ++ parts.1) (λ k i. aside parts.0 parts.1 mine k (subst AllStrangers parts.2 here.apart) i)

    -- what a job leaves of its outputs that was finished
    finished_well : (closing : List Event) → state.faulted ≡ false → Follows o.act w (wait_event ended left ∷ closing) → IsClosedBy g Good ended.status v
        closing → Each (IsLeftWell o (run v closing) mine) (out_paths g.recipe)
    finished_well closing calm follows (zero_status, done) =
        let r = recording o mid parts.0 parts.1 over g.number v closing refl calm (ap EndedPhase zero_status) (may (follows.0, tt)) follows.1 done in
        let recorded : OpenJob = record over { phase = Recorded } in
        let at : RunState = record mid { jobs = parts.0 ++ recorded ∷ parts.1 } in
        let f = follows_split o.act v r.first r.last (subst (Follows o.act v) r.events follows.1) in
        let m = midway_on (wait_event ended left ∷ r.first) at (follows.0, f.0) (step_then o state mid at w (wait_event ended left) r.first step r.runs) in
        let well =
        left_well o mid parts.0 parts.1 over v closing r m.images.formed (each_in (InPhase o (run v r.first)) (parts.0 ++ recorded ∷ parts.1) recorded m.phases
        (in_here parts.0 parts.1 recorded)) f.1
        (tree_after o w (wait_event ended left) closing follows) in
        each_on (IsLeftWell o (run v closing) over) (IsLeftWell o (run v closing) mine)
        (λ p k. record { path = k.path; recorded = k.recorded; unmarked = k.unmarked; no_more = k.no_more }) (out_paths g.recipe) well

    -- ## It is closed

    guards_inside : (j : Job) (how : Ending) → j.recipe ≡ g.recipe → Each (IsIn (out_paths j.recipe)) j.guards → Each (IsIn (out_paths g.recipe))
        (guards_of j how)
    guards_inside j Good same h = subst (λ (r : Recipe). Each (IsIn (out_paths r)) j.guards) same h
    guards_inside j (Status n) same h = tt
    guards_inside j (NoOutput p) same h = tt
    guards_inside j (WrongKind p) same h = tt
    guards_inside j (BadMember p) same h = tt

    guards_well : (j : Job) (how : Ending) (closing : List Event) → state.faulted ≡ false → Follows o.act w (wait_event ended left ∷ closing) →
        IsClosedBy g how ended.status v closing
        → guards_of j how ≢ [] → Each (IsLeftWell o (run v closing) mine) (out_paths g.recipe)
    guards_well j Good closing calm follows done some = finished_well closing calm follows done
    guards_well j (Status n) closing calm follows done some = absurd (some refl)
    guards_well j (NoOutput p) closing calm follows done some = absurd (some refl)
    guards_well j (WrongKind p) closing calm follows done some = absurd (some refl)
    guards_well j (BadMember p) closing calm follows done some = absurd (some refl)

    answered : (answer : Result (Unit {0}) KeepFault) (u t : Stand) (x : World) (events : List Event) (calm : shut.faulted ≡ false) →
        IsStateOf rules entry u shut → GoesByAnswer rules entry answer u x events t
        → IsStateOf rules entry t (tended o shut mine calm beside answer)
    answered (Ok z) u t x events calm st goes = state_later rules entry u t shut (goes_later rules entry u t x events goes) st
    answered (Err OutOfMemory) u t x events calm st goes =
        subst (λ y. IsStateOf rules entry y shut) (sym goes) (state_later rules entry u (halted_by fault.OutOfMemory u) shut (halted_later u fault.OutOfMemory)
        st)
    answered (Err Device) u t x events calm st goes = state_broken rules entry o u t shut shut.top (broken_is rules entry u t goes) st

  pub closes : (es : List Event) (deeds : List Deed) (t : Stand) → GuardsAreOutputs s → Follows o.act w es → HasClosed rules entry s w before es deeds t →
      LeadsTo o rules entry state w es t
  closes es deeds t guards follows h =
      let g = h.going in
      let wait = wait_event h.ended h.left in
      let calm : state.faulted ≡ false = is_state.faulted ∙ h.unbroken in
      let f = subst (Follows o.act w) h.events follows in
      let x = v g h.ended h.left h.waited in
      let c = follows_split o.act x h.closing h.tending f.1 in
      let shut_now = shut g h.ended h.left h.waited in
      let mid_now = mid g h.ended h.left h.waited in
      let job = mine g h.ended h.left h.waited in
      let apart = beside g h.ended h.left h.waited in
      let k = child g h.ended h.left h.waited in
      let end = tended o shut_now job calm apart h.answer in
      let p = parts g h.ended h.left h.waited in
      let closing_run = closed_runs o state p.0 p.1 g k.kept calm k.makes h.how h.ended.status x h.closing (may g h.ended h.left h.waited (f.0, tt)) c.0
      h.closed in
      let tending_run =
      tending_runs o shut_now job calm apart (guards_of h.begun.job h.how) h.answer (run x h.closing) h.tending
      (guards_inside g h.ended h.left h.waited h.begun.job h.how h.is_job.1 (each_in (λ (b : Begun). Each (IsIn (out_paths b.job.recipe)) b.job.guards) s.begun
      h.begun guards h.is_job.0))
      (guards_well g h.ended h.left h.waited h.begun.job h.how h.closing calm (f.0, c.0) h.closed) c.1 h.tended in
      record {
        end = end;
        runs = subst (λ l. Runs o state w l end) (sym h.events)
            (step_then o state mid_now end w wait (h.closing ++ h.tending) (step g h.ended h.left h.waited) (runs_then o end h.tending mid_now shut_now x
            h.closing closing_run tending_run));
        is_state = answered g h.ended h.left h.waited h.answer h.next t (run w (wait ∷ h.closing)) (before ++ wait ∷ h.closing) calm
            (state_later rules entry (next g h.ended h.left h.waited) h.next shut_now (replanned_later rules (next g h.ended h.left h.waited) h.next
            (run w (wait ∷ h.closing)) h.replanned) (shut_state g h.ended h.left h.waited)) h.goes_by;
      }

  -- ## It is left

  pub leaves : (es : List Event) (deeds : List Deed) (t : Stand) → Follows o.act w es → HasLeft rules entry s w before es deeds t →
      LeadsTo o rules entry state w es t
  leaves es deeds t follows h =
      let g = h.going in
      let wait = wait_event h.ended h.left in
      let calm : state.faulted ≡ false = is_state.faulted ∙ h.unbroken in
      let f = subst (Follows o.act w) h.events follows in
      let k = child g h.ended h.left h.waited in
      let p = parts g h.ended h.left h.waited in
      let mid_now = mid g h.ended h.left h.waited in
      let left_stand = halted_by fault.OutOfMemory (next g h.ended h.left h.waited) in
      record {
        end = mid_now;
        runs = subst (λ l. Runs o state w l mid_now) (sym h.events)
            (step_then o state mid_now mid_now w wait h.looks (step g h.ended h.left h.waited)
            (left_runs o state p.0 p.1 g k.kept calm k.makes h.ended.status (v g h.ended h.left h.waited) h.looks f.1 h.unclosed));
        is_state = subst (λ y. IsStateOf rules entry y mid_now) (sym h.leaves)
            (state_left rules entry left_stand state p.0 p.1 g k.kept h.ended.status (halted_some (next g h.ended h.left h.waited) fault.OutOfMemory)
            (state_later rules entry (next g h.ended h.left h.waited) left_stand (shut g h.ended h.left h.waited)
            (halted_later (next g h.ended h.left h.waited) fault.OutOfMemory)
            (shut_state g h.ended h.left h.waited)));
      }

  -- ## A call fails as it is closed

  pub breaks_off : (es : List Event) (deeds : List Deed) (t : Stand) → Follows o.act w es → HasBrokenOff rules entry s w before es deeds t →
      LeadsTo o rules entry state w es t
  breaks_off es deeds t follows h =
      let g = h.going in
      let wait = wait_event h.ended h.left in
      let calm : state.faulted ≡ false = is_state.faulted ∙ h.unbroken in
      let f = subst (Follows o.act w) h.events follows in
      let k = child g h.ended h.left h.waited in
      let p = parts g h.ended h.left h.waited in
      let mid_now = mid g h.ended h.left h.waited in
      let shut_now = shut g h.ended h.left h.waited in
      let end = stopped o mid_now in
      record {
        end = end;
        runs = subst (λ l. Runs o state w l end) (sym h.events)
            (step_then o state mid_now end w wait h.rest (step g h.ended h.left h.waited)
            (broken_runs o state p.0 p.1 g k.kept calm k.makes h.ended.status (v g h.ended h.left h.waited) h.rest (may g h.ended h.left h.waited (f.0, tt))
            f.1 h.unclosed));
        is_state = subst (λ l. IsStateOf rules entry t (record state { jobs = l; faulted = true }))
            (sym (without (runs o) p.0 p.1 (over g h.ended h.left h.waited) refl))
            (state_broken rules entry o (next g h.ended h.left h.waited) t shut_now shut_now.top (broken_is rules entry (next g h.ended h.left h.waited) t
            h.leaves) (shut_state g h.ended h.left h.waited));
      }

  -- ## A call has failed before

  pub waits_on : (es : List Event) (deeds : List Deed) (t : Stand) → HasWaited rules entry s w before es deeds t → LeadsTo o rules entry state w es t
  waits_on es deeds t h =
      let g = h.going in
      let p = parts g h.ended h.left h.waited in
      let k = child g h.ended h.left h.waited in
      let mid_now = mid g h.ended h.left h.waited in
      record {
        end = mid_now;
        runs = subst (λ l. Runs o state w l mid_now) (sym h.events) (one_step o state mid_now w (wait_event h.ended h.left) (step g h.ended h.left h.waited));
        is_state = subst (λ y. IsStateOf rules entry y mid_now) (sym h.leaves)
            (state_left rules entry (next g h.ended h.left h.waited) state p.0 p.1 g k.kept h.ended.status (is_state.halted h.broken)
            (shut_state g h.ended h.left h.waited));
      }

  -- ## The wait fails

  pub fails_to_wait : (es : List Event) (deeds : List Deed) (t : Stand) → HasFailedToWait rules entry s w before es deeds t → LeadsTo o rules entry state w es t
  fails_to_wait es deeds t h =
      record {
        end = stopped o state;
        runs = subst (λ l. Runs o state w l (stopped o state)) (sym h.events)
            (one_step o state (stopped o state) w (record { call = Waited (Err h.e); left = [] }) (FailWait (record { call = Waited (Err h.e); left = [] }) h.e
            refl));
        is_state = state_broken rules entry o s t state state.top (broken_is rules entry s t h.leaves) is_state;
      }
