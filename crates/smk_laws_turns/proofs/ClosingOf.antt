-- Where a job is closed, or left for want of memory, the stand to which that leads is the moment.
use Rattle.std.proofs.Common.{◌≡◌, true, false, List, [], ◌∷◌, ◌++◌, refl, sym, ap, subst, ◌∙◌, Some, Result, append_assoc, append-nil, true≢false}
use Rattle.smk_world.specs.declared.event.Event.{Event}
use Rattle.std.specs.Prelude.{bytes_eq}
use Rattle.std.specs.List.{list_any}
use Rattle.smk_pattern.specs.Reading.{or_empty}
use Rattle.smk_world.specs.declared.recipe.Recipe.{Recipe}
use Rattle.smk_world.specs.World.{World, IsFormed, after, out_paths, run}
use Rattle.smk_world.specs.Runs.{Follows}
use Rattle.smk_world.specs.Trees.{Act, IsIn, Path, first}
use Rattle.smk_world.proofs.Names.{formed_run}
use Rattle.smk_flow.specs.declared.job.Job.{Job}
use Rattle.smk_store.specs.Soundness.{SameSources}
use Rattle.smk_chain.specs.Derive.{sources_of}
use Rattle.smk_plan.specs.States.{Plan, job_path}
use Rattle.smk_keep.specs.declared.fault.KeepFault.{KeepFault}
use Rattle.smk_report.specs.declared.fault.Fault.TheVariants as fault
use Rattle.smk_run.specs.Closings.{wait_event}
use Rattle.smk_run.specs.declared.ending.Ending.{Ending as End}
use Rattle.smk_run.specs.declared.ending.Ending.TheVariants.{Good, Status, NoOutput, WrongKind, BadMember}
use Rattle.smk_drive.specs.Moments.{Begun, IsInForce, Rules, is_rest, seen}
use Rattle.smk_drive_course.proofs.HasMoment.{has_moment}
use Rattle.smk_drive_course.specs.Stands as stands
use Rattle.smk_drive_course.specs.Stands.{IsReplanned, Stand, broken_by_device, lists}
use Rattle.smk_drive_course.specs.Steps.{Deed, GoesByAnswer, GuardingFails, HasClosed, IsTended, LooksFail, Tended, Unguarded, guards_of}
use Rattle.smk_laws_moments.proofs.Fates.{IsKept, replanned_kept}
use Rattle.smk_laws_moments.proofs.ChainsOn.{planned_again}
use Rattle.smk_laws_moments.proofs.ChildrenOf.{run_more}
use Rattle.smk_laws_moments.proofs.StandsOf.{first_follows, looks_keep_stands}
use Rattle.smk_laws_moments.specs.Staying.{AreDerivedStill, IsDerivedStill, IsPlanOfSources, KeepsSources}
use Rattle.smk_laws_moments.proofs.Planned.{planned_jobs}
use Rattle.smk_laws_moments.proofs.StandsOn.{Holds, ended as ended_stays, holds_anew, replanning_stays_derived}
use Rattle.smk_laws_turns.specs.Standing.{ClosingIsMoment, IsGoing, LeavingIsMoment}
use Rattle.smk_laws_turns.proofs.DerivedJobs.{guards_are_outs}
use Rattle.smk_laws_turns.proofs.Onward.{At, goes_at, halted_at, is_it}
use Rattle.smk_laws_turns.proofs.Requests.{closing_of, looks_of}
use Rattle.smk_laws_turns.proofs.Tending.{IsReady, guarded}
use Rattle.smk_laws_turns.proofs.Waiting.{all_open, begun_there, closed_at, closing_job, d, open_first, paths, u}

module _ (rules : Rules) (entry : World) (formed : IsFormed entry) (act : Act) (s t : Stand) (before es : List Event) (deeds : List Deed) (h : HasClosed rules entry s (run entry before) before es deeds t)
    (unbroken : t.broken ≡ false) (follows : Follows act (run entry before) es) (keeps : KeepsSources rules entry (run entry before) es) (g : IsGoing rules entry s (run entry before))
    (at : At rules entry formed s before) where
  abbrev w : World
  w = run entry before

  abbrev j : Job
  j = closing_job rules entry formed s before h.going h.ended h.left h.waited.ran h.waited.number g

  abbrev its : IsDerivedStill rules entry s h.going
  its = d rules entry formed s before h.going h.ended h.left h.waited.ran h.waited.number g

  abbrev ended : Stand
  ended = u rules entry formed s before h.going h.ended h.left h.waited.ran h.waited.number g

  abbrev wait : Event
  wait = wait_event h.ended h.left

  -- the events by which it is closed
  abbrev closing : List Event
  closing = wait ∷ h.closing

  -- the plan is made anew at the last of them
  closed : At rules entry formed h.next (before ++ closing)
  closed =
      let c =
      closing_of j (job_path j) (paths rules entry formed s before h.going h.ended h.left h.waited.ran h.waited.number g) h.going its.recipe its.logs h.how h.ended.status
      (after w wait) h.closing h.closed in
      let first = open_first rules entry formed s before h.going h.ended h.left h.waited.ran h.waited.number g at in
      let open_now =
      all_open rules entry formed s before h.going h.ended h.left h.waited.ran h.waited.number g (before ++ wait ∷ []) c.front c.calls first in
      let events : before ++ closing ≡ ((before ++ wait ∷ []) ++ c.front) ++ c.last ∷ [] =
      ap (λ xs. before ++ wait ∷ xs) c.events
      ∙ (sym (append_assoc before (wait ∷ []) (c.front ++ c.last ∷ [])) ∙ sym (append_assoc (before ++ wait ∷ []) c.front (c.last ∷ []))) in
      let end : run w closing ≡ after (run entry ((before ++ wait ∷ []) ++ c.front)) c.last =
      sym (run_more entry before closing)
      ∙ (ap (λ xs. run entry xs) events ∙ run_more entry ((before ++ wait ∷ []) ++ c.front) (c.last ∷ [])) in
      subst (At rules entry formed h.next) (sym events)
      (closed_at rules entry formed s before h.going h.ended h.left h.waited.ran h.waited.number g ((before ++ wait ∷ []) ++ c.front) c.last _ h.next c.settles open_now
      (subst (λ (v : World). IsReplanned rules ended v h.next) end h.replanned))

  -- ## The job is still one of the plan in force

  formed_there : IsFormed (run w closing)
  formed_there = formed_run w closing (formed_run entry before formed)

  same_there : SameSources (seen rules entry) (seen rules (run w closing))
  same_there = keeps closing h.tending h.events

  derived_next : AreDerivedStill rules entry h.next
  derived_next =
      replanning_stays_derived rules entry (run w closing) ended h.next formed formed_there same_there h.replanned
      (ended_stays rules entry formed s ended (seen rules (after w wait)) h.going h.ended.status refl g.derived)

  still : Holds rules entry formed (lists h.next) j
  still = holds_anew rules entry formed (run w closing) formed_there same_there ended h.next h.replanned j (its.derived, its.listed)

  planned_next : (plan : Plan) → h.next.plan ≡ Some plan → IsPlanOfSources rules entry plan × IsIn plan.jobs j
  planned_next plan some =
      let of = derived_next.planned plan some in (of, subst (λ js. IsIn js j) (planned_jobs rules entry h.next formed plan some of) still.0)

  kept : IsKept ended h.next
  kept = replanned_kept rules ended h.next (run w closing) h.replanned

  has_begun : list_any (λ (b : Begun). bytes_eq (job_path b.job) (job_path j)) h.next.begun ≡ true
  has_begun =
      ap (λ (bs : List Begun). list_any (λ (b : Begun). bytes_eq (job_path b.job) (job_path j)) bs) kept.begun
      ∙ begun_there rules entry formed s before h.going h.ended h.left h.waited.ran h.waited.number g

  -- ## What it guards

  same_job : h.begun.job ≡ j
  same_job =
      g.one h.begun its.begun h.is_job.0 its.has_begun
      (ap (λ (r : Recipe). or_empty (first (out_paths r))) (h.is_job.1 ∙ sym its.recipe))

  abbrev guards : List Path
  guards = guards_of h.begun.job h.how

  guards_made : (p : Path) → IsIn guards p → IsIn (out_paths j.recipe) p
  guards_made p i = guards_are_outs rules.flow (sources_of (seen rules entry)) (lists s) rules.settings.targets j its.derived p (go h.how (subst (λ (k : Job). IsIn (guards_of k h.how) p) same_job i))
    where
      go : (how : End) → IsIn (guards_of j how) p → IsIn j.guards p
      go Good k = k
      go (Status n) k = absurd k
      go (NoOutput q) k = absurd k
      go (WrongKind q) k = absurd k
      go (BadMember q) k = absurd k

  -- ## Afterwards

  abbrev events : List Event
  events = before ++ closing

  abbrev Ready : List Event → Type 0
  Ready fs = IsReady rules entry formed act h.next j planned_next has_begun (paths rules entry formed s before h.going h.ended h.left h.waited.ran h.waited.number g) fs

  ready : Ready events
  ready =
      record {
        at = closed;
        ready = subst (λ (v : World). is_rest v h.next.begun ≡ true → IsInForce rules v h.next.begun (lists h.next) h.next.plan) (sym (run_more entry before closing)) (in_force h.next h.replanned);
      }
    where
      in_force : (next : Stand) → IsReplanned rules ended (run w closing) next → is_rest (run w closing) next.begun ≡ true → IsInForce rules (run w closing) next.begun (lists next) next.plan
      in_force next (stands.AtRest plan rest force) again = planned_again rules (run w closing) ended.begun (lists ended) plan force
      in_force next (stands.Between unrested) again = absurd (true≢false (sym again ∙ unrested))

  never_broken : (x : Stand) → t ≡ x → x.broken ≡ true → ⊥
  never_broken x is broken = true≢false (sym (ap (λ (y : Stand). y.broken) is ∙ broken) ∙ unbroken)

  tended :
      (answer : Result (Unit {0}) KeepFault) (tending : List Event) → IsTended guards answer tending → GoesByAnswer rules entry answer h.next (run w closing) events t →
      Follows act (run entry events) tending → At rules entry formed t (events ++ tending)
  tended answer tending (Tended guarding looks guard looked) goes done =
      let split = first_follows rules entry formed act (run entry events) guarding looks done in
      let r = guarded rules entry formed act h.next j planned_next has_begun (paths rules entry formed s before h.going h.ended h.left h.waited.ran h.waited.number g) events guarding guards guards_made guard split.0 ready in
      let n = has_moment rules entry ((events ++ guarding) ++ looks) formed in
      let at_looks : At rules entry formed h.next ((events ++ guarding) ++ looks) =
      (n.0, n.1, looks_keep_stands act rules entry h.next (events ++ guarding) looks false r.at.0 n.0 formed looked (subst (λ (v : World). Follows act v looks) (sym (run_more entry events guarding)) split.1) r.at.1 r.at.2 n.1) in
      goes_at rules entry formed h.next t (run w closing) events (events ++ (guarding ++ looks)) goes (subst (At rules entry formed h.next) (append_assoc events guarding looks) at_looks)
  tended answer tending Unguarded goes done = subst (At rules entry formed t) (sym (append-nil events)) (halted_at rules entry formed h.next t fault.OutOfMemory events goes closed)
  tended answer tending (GuardingFails guarding cut) goes done = absurd (never_broken (broken_by_device h.next) goes refl)
  tended answer tending (LooksFail guarding looks guard looked) goes done = absurd (never_broken (broken_by_device h.next) goes refl)

  pub closes_at : At rules entry formed t (before ++ es)
  closes_at =
      let behind : Follows act (run entry events) h.tending =
      subst (λ (v : World). Follows act v h.tending) (sym (run_more entry before closing))
      (first_follows rules entry formed act w closing h.tending (subst (λ xs. Follows act w xs) h.events follows)).1 in
      subst (At rules entry formed t) (append_assoc before closing h.tending ∙ ap (λ xs. before ++ xs) (sym h.events)) (tended h.answer h.tending h.tended h.goes_by behind)

pub closing_is_moment : ClosingIsMoment
closing_is_moment act rules entry s t before es deeds m n formed going keeps (h, unbroken) follows is of isn =
    is_it rules entry formed t (before ++ es) n (closes_at rules entry formed act s t before es deeds h unbroken follows keeps going (m, is, of)) isn

-- ## Left for want of memory

pub leaving_is_moment : LeavingIsMoment
leaving_is_moment act rules entry s t before es deeds m n formed going keeps h follows is of isn =
    let its = d rules entry formed s before h.going h.ended h.left h.waited.ran h.waited.number going in
    let j = closing_job rules entry formed s before h.going h.ended h.left h.waited.ran h.waited.number going in
    let looks =
    looks_of j (job_path j) (paths rules entry formed s before h.going h.ended h.left h.waited.ran h.waited.number going) h.going its.recipe its.logs h.looks h.unclosed in
    let wait = wait_event h.ended h.left in
    let first = open_first rules entry formed s before h.going h.ended h.left h.waited.ran h.waited.number going (m, is, of) in
    let open_now = all_open rules entry formed s before h.going h.ended h.left h.waited.ran h.waited.number going (before ++ wait ∷ []) h.looks looks first in
    let ended = u rules entry formed s before h.going h.ended h.left h.waited.ran h.waited.number going in
    let left = halted_at rules entry formed ended t fault.OutOfMemory ((before ++ wait ∷ []) ++ h.looks) h.leaves open_now.at in
    is_it rules entry formed t (before ++ es) n
    (subst (At rules entry formed t) (append_assoc before (wait ∷ []) h.looks ∙ ap (λ xs. before ++ xs) (sym h.events)) left) isn
