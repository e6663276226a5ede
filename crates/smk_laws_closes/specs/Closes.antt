-- What a run did once a child was waited for and taken from its place.
use Rattle.std.specs.Prelude.{◌≡◌, ◌≢◌, ◌⊎◌, ◌+◌, ℕ, true, false, List, [], ◌∷◌, ◌++◌, Option, Some, None, Result, Ok, Err, IfErr}
use Rattle.std.specs.List.{slice_get}
use Rattle.smk_world.specs.declared.event.Ended.{Ended}
use Rattle.smk_world.specs.declared.event.Change.{Change}
use Rattle.smk_world.specs.declared.event.Event.{Event}
use Rattle.smk_world.specs.declared.event.WorkFault.TheVariants as work
use Rattle.smk_world.specs.World.{World, after, run}
use Rattle.smk_world.specs.Calls.{HasOwners}
use Rattle.smk_world.specs.Requests.{IsCutShort}
use Rattle.smk_world.specs.Runs.{Follows}
use Rattle.smk_world.specs.Trees.{Act}
use Rattle.smk_flow.specs.declared.job.Job.{Job}
use Rattle.smk_flow.specs.Flows.{Flow}
use Rattle.smk_pick.specs.declared.room.Room.{Room}
use Rattle.smk_pick.specs.declared.settings.Settings.{Settings}
use Rattle.smk_pick.specs.Shares.{Holds}
use Rattle.smk_keep.specs.Keeping.{protect_requests}
use Rattle.smk_report.specs.declared.fault.Fault.{Fault}
use Rattle.smk_report.specs.declared.fault.Fault.TheVariants as fault
use Rattle.smk_run.specs.declared.ending.Ending.{Ending as End}
use Rattle.smk_run.specs.declared.ending.Ending.TheVariants.{BadMember, Good, NoOutput, Status, WrongKind}
use Rattle.smk_run.specs.declared.tally.Tally.{Tally}
use Rattle.smk_run.specs.Closings.{HasSettled, IsClosedBy, wait_event}
use Rattle.smk_run.specs.Reports.{failure}
use Rattle.smk_laws_moments.proofs.QuietCalls.{IsQuiet}
use Rattle.smk_run.proofs.Calls.{EachCall}
use Rattle.smk_drive.specs.Reports.{named_job}
use Rattle.smk_plan_live.specs.Live.{LivePlan}
use Rattle.smk_drive_step.specs.declared.children.Child.{Child}
use Rattle.smk_drive_step.specs.Crews.{IsPutFor}
use Rattle.smk_drive_course.specs.Stands.{NoneLeft}
use Rattle.smk_drive_course.specs.Steps.{Closed, Deed, HasGuarded, guards_of}
use Rattle.smk_laws_turns.specs.Hubs.{Parts, asks_in}
use Rattle.smk_laws_turns.specs.Turning.{faulted}
use Rattle.smk_drive_hub.specs.Keeping.{heeded}
use Rattle.smk_drive_hub.specs.Turned.{LeadOn, WhereUnhalted}
use Rattle.smk_laws_turns.specs.GrowingRounds.{HasGrownOn}
use Rattle.smk_laws_closes.specs.Endings.{told_end}
use Rattle.smk_laws_closes.specs.Learning.{HasLearnt, IsSamePlan}

-- ## Counts

-- the first fault of a job that failed, where this one came after that
abbrev pub first_failure : Option Fault → Option Fault → Option Fault
first_failure None later = later
first_failure (Some f) later = Some f

abbrev pub one_done : Tally → Tally
one_done t = record t { done = t.done + 1 }

abbrev pub one_failed : Option Fault → Tally → Tally
one_failed f t = record t { failed = t.failed + 1; first = first_failure t.first f }

-- one job more that ended so
abbrev pub counted_end : Flow → Job → End → Tally → Tally
counted_end flow j Good t = one_done t
counted_end flow j (Status n) t = one_failed (failure (named_job flow j) (Status n)) t
counted_end flow j (NoOutput p) t = one_failed (failure (named_job flow j) (NoOutput p)) t
counted_end flow j (WrongKind p) t = one_failed (failure (named_job flow j) (WrongKind p)) t
counted_end flow j (BadMember p) t = one_failed (failure (named_job flow j) (BadMember p)) t

-- a fault with which lines may be missing: of the sink, or for want of memory
abbrev pub IsLineFault : Fault → Type 0
IsLineFault f = (f ≡ fault.Output) ⊎ (f ≡ fault.OutOfMemory)

-- The end of the job was put and counted, with this answer: where that is a fault the count may be another one.
pub record HasNotedEnd (flow : Flow) (j : Job) (how : End) (answer : Result (Unit {0}) Fault) (h k : Parts) : Type 0 where
  pub live : k.live ≡ h.live
  pub room : k.room ≡ h.room
  pub places : k.places ≡ h.places
  pub next : k.next ≡ h.next
  pub halt : k.halt ≡ (heeded answer h).halt
  pub counted : answer ≡ Ok tt → k.tally ≡ counted_end flow j how h.tally
  pub lost : IfErr answer IsLineFault

-- ## What follows on the closing

-- Once the job was closed its outputs were made read-only, where that is called for, and the plan was told, where no fault had come, and answered
-- this; or a call failed in this, or memory was wanting.
pub data HasTended (flow : Flow) (settings : Settings) (number : ℕ) (j : Job) (how : End) (h : Parts) (w : World)
    : LivePlan → Result (Unit {0}) Fault → List Event → Type 0 where
  IsUnguarded : HasTended flow settings number j how h w h.live (Err fault.OutOfMemory) []
  GuardFails :
      (guarding : List Event) →
      IsCutShort (protect_requests (guards_of j how)) guarding → HasTended flow settings number j how h w h.live (Err fault.Device) guarding
  WasHalted :
      (guarding : List Event) (f : Fault) →
      HasGuarded (guards_of j how) guarding → h.halt.fault ≡ Some f → HasTended flow settings number j how h w h.live (Ok tt) guarding
  Learns :
      (guarding looks : List Event) (new : LivePlan) (answer : Result (Unit {0}) Fault) →
      HasGuarded (guards_of j how) guarding →
      h.halt.fault ≡ None →
      IsSamePlan h.live new →
      HasLearnt flow settings number j h.live new (run w guarding) looks answer → HasTended flow settings number j how h w new answer (guarding ++ looks)

-- ## A child that has ended with this status

-- Its job was closed, which is told, and then this was done.
pub record HasDone
    (flow : Flow) (settings : Settings) (h : Parts) (c : Child) (status : ℕ) (k : Parts) (deeds : List Deed) (w : World) (es : List Event) : Type 0 where
  pub job : Job
  pub how : End
  pub closing : List Event
  pub tending : List Event
  pub answer : Result (Unit {0}) Fault
  pub noted : Parts
  pub new : LivePlan
  pub outcome : Result (Unit {0}) Fault
  pub is : slice_get h.live.base.jobs.jobs c.job ≡ Some job
  pub events : es ≡ closing ++ tending
  pub closed : IsClosedBy c.going how status w closing
  pub notes : HasNotedEnd flow job how answer h noted
  pub tended : HasTended flow settings c.job job how noted (run w closing) new outcome tending
  pub kept : k ≡ heeded outcome (record noted { live = new })
  pub deeds_are : deeds ≡ Closed job (told_end how) ∷ []

-- Its job was closed; or there was no memory for that; or a call failed; and no child is of a job that the plan doesn't have.
pub data HasClosedFor (flow : Flow) (settings : Settings) (h : Parts) (c : Child) (status : ℕ) (w : World) (es : List Event) : Parts → List Deed → Type 0 where
  IsLeft : HasSettled c.going (Err work.OutOfMemory) status w es → HasClosedFor flow settings h c status w es (faulted fault.OutOfMemory h) []
  IsCut : HasSettled c.going (Err work.Failed) status w es → HasClosedFor flow settings h c status w es (faulted fault.Device h) []
  IsDone : (k : Parts) (deeds : List Deed) → HasDone flow settings h c status k deeds w es → HasClosedFor flow settings h c status w es k deeds
  IsNone :
      (k : Parts) (deeds : List Deed) →
      slice_get h.live.base.jobs.jobs c.job ≡ None → EachCall IsQuiet es → HasClosedFor flow settings h c status w es k deeds

-- ## Steps on

-- what is kept once the child was taken from its place and gave back what it had of the room
abbrev pub taken : Parts → List (Option Child) → Room → Parts
taken h places room = record h { places = places; room = room }

module _ (act : Act) (flow : Flow) (settings : Settings) (h : Parts) (c : Child) (places : List (Option Child)) (room : Room) where
  -- A child was waited for and its job closed, and some fault has come: that is a step, or more than one.
  abbrev pub ClosedLeads : Type 0
  ClosedLeads =
      (ended : Ended) (left : List Change) (w : World) (es : List Event) (k : Parts) (deeds : List Deed) →
      h.halt.only_waits ≡ false →
      IsPutFor (Some c) None h.places places →
      Holds settings.cores settings.bounds room (asks_in places) →
      WhereUnhalted NoneLeft flow settings h w →
      ended.number ≡ c.going.number →
      HasOwners w →
      HasClosedFor flow settings (taken h places room) c ended.status (after w (wait_event ended left)) es k deeds →
      k.halt.fault ≢ None → Follows act w (wait_event ended left ∷ es) → LeadOn flow settings h k deeds w (wait_event ended left ∷ es)

  -- A child was waited for and its job closed, no fault has come, and the plan has grown by all that has become known: that is one step.
  abbrev pub GrownLeads : Type 0
  GrownLeads =
      (ended : Ended) (left : List Change) (w : World) (es looks : List Event) (m k : Parts) (deeds : List Deed) →
      h.halt.only_waits ≡ false →
      IsPutFor (Some c) None h.places places →
      Holds settings.cores settings.bounds room (asks_in places) →
      WhereUnhalted NoneLeft flow settings h w →
      ended.number ≡ c.going.number →
      HasOwners w →
      HasClosedFor flow settings (taken h places room) c ended.status (after w (wait_event ended left)) es m deeds →
      m.halt.fault ≡ None →
      HasGrownOn flow settings (run (after w (wait_event ended left)) es) m k looks →
      Follows act w (wait_event ended left ∷ (es ++ looks)) → LeadOn flow settings h k deeds w (wait_event ended left ∷ (es ++ looks))

  -- After a call of the device has failed a child was waited for, and nothing else was done.
  abbrev pub WaitedLeads : Type 0
  WaitedLeads =
      (ended : Ended) (left : List Change) (w : World) →
      h.halt.only_waits ≡ true →
      IsPutFor (Some c) None h.places places →
      ended.number ≡ c.going.number →
      Follows act w (wait_event ended left ∷ []) → LeadOn flow settings h (taken h places room) [] w (wait_event ended left ∷ [])

-- so it is of each run
abbrev pub OfWaits : (Act → Flow → Settings → Parts → Child → List (Option Child) → Room → Type 0) → Type 0
OfWaits P =
    (act : Act) (flow : Flow) (settings : Settings) (h : Parts) (c : Child) (places : List (Option Child)) (room : Room) →
    P act flow settings h c places room
