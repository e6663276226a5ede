-- The steps of a run, one after another.
use Rattle.std.proofs.Common.{◌≡◌, ℕ, List, [], ◌∷◌, ◌++◌, map, refl, sym, ap, subst, ◌∙◌, append_assoc, append-nil}
use Rattle.smk_world.specs.declared.event.Event.{Event}
use Rattle.smk_world.specs.World.{World, out_paths, run}
use Rattle.smk_world.specs.Runs.{Follows}
use Rattle.smk_world.specs.Trees.{Each, IsIn}
use Rattle.smk_world.proofs.Runs.{run_append}
use Rattle.smk_store.specs.Soundness.{Outside}
use Rattle.smk_store.specs.Trust.{Versions}
use Rattle.smk_flow.specs.declared.job.Job.{Job}
use Rattle.smk_laws_history.proofs.CurrentComplete.{seen_is_complete}
use Rattle.smk_laws_protocol.specs.Protocol.{RunState, Runs, Done}
use Rattle.smk_laws_protocol.specs.Midway.{Midway}
use Rattle.smk_run.proofs.Calls.{each_append}
use Rattle.smk_safe.proofs.Done.{follows_split}
use Rattle.smk_safe.proofs.Joining.{runs_then}
use Rattle.smk_safe.proofs.Safe.{front}
use Rattle.smk_drive.specs.Moments.{Begun, Rules, seen}
use Rattle.smk_drive_course.specs.Stands.{Stand}
use Rattle.smk_drive_course.specs.Steps.{Deed}
use Rattle.smk_drive_course.specs.Breaks.{Begins, BeginsNot, BreaksOff, Closes, Done as NoStep, FailsToWait, Halts, Leaves, ReadsNot, Spends, SpendsNot, Step, Steps, Then, Waits}
use Rattle.smk_laws_moments.specs.Courses.{begun_jobs, started_jobs}
use Rattle.smk_laws_moments.proofs.Fates.{starts_are_told}
use Rattle.smk_laws_moments.specs.Starting.{StartableMayBegin}
use Rattle.smk_laws_moments.proofs.Next.{starting as starting_by}
use Rattle.smk_laws_moments.specs.Staying.{DerivedArePlanned, KeepsSources, MidwayKeepsSources, ReplanningStaysDerived, StepStaysDerived}
use Rattle.smk_laws_turns.specs.Following.{GuardsAreOutputs, IsGiven, IsReached, LeadsTo}
use Rattle.smk_laws_turns.proofs.Begun.{begins, begins_not, halts, reads_not}
use Rattle.smk_laws_turns.proofs.Coming.{come_on, midway}
use Rattle.smk_laws_turns.proofs.Flagged.{guard_outputs}
use Rattle.smk_laws_turns.proofs.Spending.{spends, spends_not}
use Rattle.smk_laws_turns.proofs.Waited.{breaks_off, closes, fails_to_wait, leaves, midway_on, waits_on}

-- what is to be made read-only of the job is among its outputs
abbrev IsGuardedWell : Job → Type 0
IsGuardedWell j = Each (IsIn (out_paths j.recipe)) j.guards

of_begun : (bs : List Begun) → Each (λ (b : Begun). IsGuardedWell b.job) bs → Each IsGuardedWell (map (λ (b : Begun). b.job) bs)
of_begun [] h = tt
of_begun (b ∷ bs) h = (h.0, of_begun bs h.1)

from_jobs : (bs : List Begun) → Each IsGuardedWell (map (λ (b : Begun). b.job) bs) → Each (λ (b : Begun). IsGuardedWell b.job) bs
from_jobs [] h = tt
from_jobs (b ∷ bs) h = (h.0, from_jobs bs h.1)

module _ (o : Outside) (rules : Rules) (entry : World) (H : Versions) (top : ℕ) (given : IsGiven o rules entry H top)
    (starting : StartableMayBegin) (anew : ReplanningStaysDerived) (stays : StepStaysDerived) (derived_planned : DerivedArePlanned)
    (keeps_sources : MidwayKeepsSources) where
  module _ (before : List Event) (s : Stand) (at : IsReached o rules entry top before s) where
    abbrev w : World
    w = run entry before

    here : Midway o entry H at.state w
    here = midway o entry H top given.differ given.sound given.is_top before at.state at.come

    step_leads : (es : List Event) (deeds : List Deed) (t : Stand) → Follows o.act w es → Step rules entry s w before es deeds t →
        LeadsTo o rules entry at.state w es t
    step_leads es deeds t follows (Begins h) = begins o rules entry H top given starting before s at.state at.come at.is_state
        (derived_planned rules entry s given.sound.formed at.derived) es deeds t follows h
    step_leads es deeds t follows (Closes h) = closes o rules entry H top given before s at.state at.come at.is_state es deeds t at.guards follows h
    step_leads es deeds t follows (Spends h) = spends o rules entry H top given anew derived_planned keeps_sources at.state before s at.come at.is_state
        at.derived es deeds t follows h
    step_leads es deeds t follows (Halts h) = halts o rules entry H top given starting before s at.state at.come at.is_state
        (derived_planned rules entry s given.sound.formed at.derived) es deeds t h
    step_leads es deeds t follows (Leaves h) = leaves o rules entry H top given before s at.state at.come at.is_state es deeds t follows h
    step_leads es deeds t follows (BreaksOff h) = breaks_off o rules entry H top given before s at.state at.come at.is_state es deeds t follows h
    step_leads es deeds t follows (ReadsNot h) = reads_not o rules entry H top given starting before s at.state at.come at.is_state
        (derived_planned rules entry s given.sound.formed at.derived) es deeds t h
    step_leads es deeds t follows (BeginsNot h) = begins_not o rules entry H top given starting before s at.state at.come at.is_state
        (derived_planned rules entry s given.sound.formed at.derived) es deeds t follows h
    step_leads es deeds t follows (SpendsNot h) = spends_not o rules entry H top given anew derived_planned keeps_sources at.state before s at.come at.is_state
        at.derived es deeds t follows h
    step_leads es deeds t follows (Waits h) = waits_on o rules entry H top given before s at.state at.come at.is_state es deeds t h
    step_leads es deeds t follows (FailsToWait h) = fails_to_wait o rules entry H top given before s at.state at.come at.is_state es deeds t h

    -- ## What has begun

    started_guarded : (es : List Event) (deeds : List Deed) (t : Stand) → Step rules entry s w before es deeds t → Each IsGuardedWell (started_jobs deeds)
    started_guarded es deeds t (Begins h) =
        let k = starting_by rules s w before h.job h.to_begin.next in
        subst (λ ds. Each IsGuardedWell (started_jobs ds)) (sym h.deeds_are) (
          guard_outputs rules.flow (seen rules w) k.plan.lists rules.settings.targets k.plan.jobs (seen_is_complete rules.read w here.images.formed)
              k.is_plan.derived h.job.0 k.planned,
          tt,
        )
    started_guarded es deeds t (Closes h) = subst (λ ds. Each IsGuardedWell (started_jobs ds)) (sym h.deeds_are) tt
    started_guarded es deeds t (Spends h) = subst (λ ds. Each IsGuardedWell (started_jobs ds)) (sym h.deeds_are) tt
    started_guarded es deeds t (Halts h) = subst (λ ds. Each IsGuardedWell (started_jobs ds)) (sym h.deeds_are) tt
    started_guarded es deeds t (Leaves h) = subst (λ ds. Each IsGuardedWell (started_jobs ds)) (sym h.deeds_are) tt
    started_guarded es deeds t (BreaksOff h) = subst (λ ds. Each IsGuardedWell (started_jobs ds)) (sym h.deeds_are) tt
    started_guarded es deeds t (ReadsNot h) = subst (λ ds. Each IsGuardedWell (started_jobs ds)) (sym h.deeds_are) tt
    started_guarded es deeds t (BeginsNot h) = subst (λ ds. Each IsGuardedWell (started_jobs ds)) (sym h.deeds_are) tt
    started_guarded es deeds t (SpendsNot h) = subst (λ ds. Each IsGuardedWell (started_jobs ds)) (sym h.deeds_are) tt
    started_guarded es deeds t (Waits h) = subst (λ ds. Each IsGuardedWell (started_jobs ds)) (sym h.deeds_are) tt
    started_guarded es deeds t (FailsToWait h) = subst (λ ds. Each IsGuardedWell (started_jobs ds)) (sym h.deeds_are) tt

    guards_on : (es : List Event) (deeds : List Deed) (t : Stand) → Step rules entry s w before es deeds t → GuardsAreOutputs t
    guards_on es deeds t step =
        let told = starts_are_told rules entry s t w before (es ++ []) (deeds ++ []) (Then s t t w before es [] deeds [] step
        (NoStep t (run w es) (before ++ es))) in
        from_jobs t.begun
        (subst (Each IsGuardedWell) (sym (told ∙ ap (λ ds. begun_jobs s ++ started_jobs ds) (append-nil deeds)))
        (each_append IsGuardedWell (begun_jobs s) (started_jobs deeds) (of_begun s.begun at.guards) (started_guarded es deeds t step)))

    -- ## One step

    sources_on : (es : List Event) (end : RunState) → Follows o.act w es → Runs o at.state w es end → KeepsSources rules entry w es
    sources_on es end follows runs first rest split =
        let f = follows_split o.act w first rest (subst (Follows o.act w) split follows) in
        let part = front o at.state end w first rest (subst (λ l. Runs o at.state w l end) split runs) in
        keeps_sources o rules entry H part.0 (run w first) given.reader (midway_on o rules entry H top given before s at.state at.come at.is_state first part.0
        f.0 part.1)

    step_on : (es : List Event) (deeds : List Deed) (t : Stand) → Step rules entry s w before es deeds t → Follows o.act w es →
        (next : IsReached o rules entry top (before ++ es) t) × Runs o at.state w es next.state
    step_on es deeds t step follows =
        let led = step_leads es deeds t follows step in (
          record {
            state = led.end;
            come = come_on o entry top before es at.state led.end at.come follows led.runs;
            is_state = led.is_state;
            derived = stays rules entry s t before es deeds given.sound.formed (sources_on es led.end follows led.runs) at.derived step;
            guards = guards_on es deeds t step;
          },
          led.runs,
        )

  -- ## Steps

  -- the stand to which these events lead from that state
  record IsCome (state : RunState) (w : World) (es events : List Event) (t : Stand) : Type 0 where
    pub next : IsReached o rules entry top events t
    pub runs : Runs o state w es next.state

  come_by : (s t : Stand) (w : World) (before es : List Event) (deeds : List Deed) → Steps rules entry s w before es deeds t → w ≡ run entry before →
      (at : IsReached o rules entry top before s)
      → Follows o.act w es → IsCome at.state w es (before ++ es) t
  come_by s t w before es deeds (NoStep s1 w1 before1) there at follows =
      subst (λ xs. IsCome at.state w1 [] xs s1) (sym (append-nil before1)) (record { next = at; runs = Done at.state w1 })
  come_by s t w before es deeds (Then s1 t1 u1 w1 before1 es1 fs ds more step rest) there at follows =
      let f = follows_split o.act w1 es1 fs follows in
      let one = step_on before1 s1 at es1 ds t1 (subst (λ v. Step rules entry s1 v before1 es1 ds t1) there step) (subst (λ v. Follows o.act v es1) there f.0)
      in
      let runs_one : Runs o at.state w1 es1 (one.0).state = subst (λ v. Runs o at.state v es1 (one.0).state) (sym there) one.1 in
      let later = come_by t1 u1 (run w1 es1) (before1 ++ es1) fs more rest (ap (λ v. run v es1) there ∙ sym (run_append entry before1 es1)) one.0 f.1 in
      subst (λ xs. IsCome at.state w1 (es1 ++ fs) xs u1) (append_assoc before1 es1 fs)
      (record { next = later.next; runs = runs_then o (later.next).state fs at.state (one.0).state w1 es1 runs_one later.runs })

  pub steps_follow : (s t : Stand) (before es : List Event) (deeds : List Deed) → Steps rules entry s (run entry before) before es deeds t →
      (at : IsReached o rules entry top before s)
      → Follows o.act (run entry before) es → (next : IsReached o rules entry top (before ++ es) t) × Runs o at.state (run entry before) es next.state
  steps_follow s t before es deeds steps at follows = let r = come_by s t (run entry before) before es deeds steps refl at follows in (r.next, r.runs)
