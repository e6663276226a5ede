-- What one turn of a run did: a job begun, a child waited for and its job closed, or outputs removed.
use Rattle.std.specs.Prelude.{◌≡◌, ◌≢◌, ◌⊎◌, ◌≤◌, ◌+◌, ℕ, Bool, true, false, ◌||◌, List, [], ◌++◌, map, nat_eq, Contains, Option, Some, None, IsSome, IsTrue}
use Rattle.std.specs.List.{IsDistinct, slice_get}
use Rattle.smk_world.specs.declared.event.Event.{Event}
use Rattle.smk_world.specs.World.{World}
use Rattle.smk_world.specs.Calls.{HasCause}
use Rattle.smk_world.specs.Devices.{Device, Sunk}
use Rattle.smk_world.specs.Runs.{Did}
use Rattle.smk_world.specs.Trees.{Act, IsIn}
use Rattle.smk_flow.specs.declared.job.Job.{Job}
use Rattle.smk_flow.specs.Flows.{Flow}
use Rattle.smk_pick.specs.declared.settings.Settings.{Settings}
use Rattle.smk_pick.specs.Shares.{Holds}
use Rattle.smk_report.specs.Lines.{Text, done_line}
use Rattle.smk_report.specs.declared.fault.Fault.{Fault}
use Rattle.smk_report.specs.declared.fault.Fault.TheVariants as fault
use Rattle.smk_job.specs.Jobs.{Underway}
use Rattle.smk_run.specs.Reports.{HasReported}
use Rattle.smk_run.specs.Statuses.{HasGiven}
use Rattle.smk_run.specs.declared.tally.Tally.{Tally}
use Rattle.smk_plan_live.specs.Lives.{IsLive}
use Rattle.smk_drive.specs.Moments.{Rules}
use Rattle.smk_drive.specs.Lawful.{is_failed_wait}
use Rattle.smk_drive.specs.Reports.{named_job}
use Rattle.smk_drive_step.specs.declared.children.Child.{Child}
use Rattle.smk_drive_step.specs.declared.halt.Halt.{Halt}
use Rattle.smk_drive_step.specs.Crews.{IsPutFor, goings}
use Rattle.smk_drive_course.specs.Stands.{Stand}
use Rattle.smk_drive_course.specs.Steps.{Deed}
use Rattle.smk_drive_course.specs.Reports.{IsFrontFor, lines_of}
use Rattle.smk_drive_first.specs.Opening.{AreRules}
use Rattle.smk_laws_turns.specs.Going.{HasGoneTo}
use Rattle.smk_laws_turns.specs.Hubs.{IsAt, Parts, asks_in}

-- ## In the world

-- The run stands somewhere in this world, by some such rules, after some events from an entry on.
pub record Somewhere (flow : Flow) (settings : Settings) (h : Parts) (w : World) : Type 0 where
  pub rules : Rules
  pub entry : World
  pub stand : Stand
  pub before : List Event
  pub deeds : List Deed
  pub by : AreRules flow settings rules
  pub at : IsAt rules entry h stand w before deeds

-- Wherever the run stood in this world, by whichever such rules, these events are steps on from there that did this, and what is kept then stands where they
-- lead.
abbrev pub LeadOn : Flow → Settings → Parts → Parts → List Deed → World → List Event → Type 0
LeadOn flow settings h k more w es =
    (rules : Rules) (entry : World) (s : Stand) (before : List Event) (deeds : List Deed) →
    AreRules flow settings rules → IsAt rules entry h s w before deeds → HasGoneTo rules entry k s w before es deeds more

-- the same where it is said of each stand at which no fault has come
abbrev pub WhereUnhalted : (Rules → Stand → World → List Event → Type 0) → Flow → Settings → Parts → World → Type 0
WhereUnhalted P flow settings h w =
    (rules : Rules) (entry : World) (s : Stand) (before : List Event) (deeds : List Deed) →
    AreRules flow settings rules → IsAt rules entry h s w before deeds → s.halted ≡ None → P rules s w before

-- a wait failed
abbrev pub HasFailedWait : List Event → Type 0
HasFailedWait es = (e : Event) × IsIn es e × IsTrue (is_failed_wait e.call)

-- ## Numbers

-- the numbers of the children in these places
abbrev pub numbers_in : List (Option Child) → List ℕ
numbers_in places = map (λ (g : Underway). g.number) (goings places)

-- The children in these places are those of the device, each with a number of its own.
pub record AreSeated (places : List (Option Child)) (running : List ℕ) : Type 0 where
  pub seated : (n : ℕ) → Contains running n → Contains (numbers_in places) n
  pub runs : (n : ℕ) → Contains (numbers_in places) n → Contains running n
  pub distinct : IsDistinct nat_eq (numbers_in places)

-- The child was taken from its place, and the others are in theirs, maybe with other numbers of their jobs.
pub record IsTakenFrom (c : Child) (were are : List (Option Child)) : Type 0 where
  pub left : List (Option Child)
  pub put : IsPutFor (Some c) None were left
  pub goings : goings are ≡ goings left

-- at most one more of each
pub record IsBarelyMore (before now : Tally) : Type 0 where
  pub started : now.started ≤ before.started + 1
  pub done : now.done ≤ before.done + 1
  pub failed : now.failed ≤ before.failed + 1

-- ## Lines

-- All lines of what was done so far were put, as long as lines go to the sink; else a front of them, such as the first fault leaves.
pub record IsToldSoFar (flow : Flow) (h : Parts) (deeds : List Deed) (text : Text) : Type 0 where
  pub all : h.telling ≡ true → text ≡ lines_of flow deeds
  pub front : h.telling ≡ false → (f : Fault) × (h.halt.fault ≡ Some f) × IsFrontFor flow deeds f [] text

-- with this text what was put goes on to tell what was done, whatever that was before
abbrev pub TellsOn : Flow → Parts → Parts → List Deed → Text → Type 0
TellsOn flow h k more text = (deeds : List Deed) (before : Text) → IsToldSoFar flow h deeds before → IsToldSoFar flow k (deeds ++ more) (before ++ text)

-- ## A turn

-- Children are only waited for just where a call of the device has failed: then some fault has come; and they are, where that was the first.
pub record IsSoundHalt (h : Halt) : Type 0 where
  pub some : h.only_waits ≡ true → h.fault ≢ None
  pub device : h.fault ≡ Some fault.Device → h.only_waits ≡ true

-- What is so of all that a run keeps, be a world told or not: the room is what its children leave; its faults are told rightly; and each child has the line of the
-- end of its job.
pub record IsSteady (flow : Flow) (settings : Settings) (h : Parts) : Type 0 where
  pub room : Holds settings.cores settings.bounds h.room (asks_in h.places)
  pub halt : IsSoundHalt h.halt
  -- no line goes to the sink only where a fault has come
  pub silent : h.telling ≡ false → h.halt.fault ≢ None
  pub lines : (c : Child) → IsIn h.places (Some c) → (j : Job) → slice_get h.live.base.jobs.jobs c.job ≡ Some j → c.done ≡ done_line (named_job flow j)

-- What a turn did, from what was kept before it to what is kept after it. Where a call of the device failed children are only waited for from then on; where
-- the sink failed no line goes to it any more. It may be told that a wait failed.
pub record HasTurned (act : Act) (flow : Flow) (settings : Settings) (h k : Parts) (unwaited : Bool) (old new : Device) (out_old out_new : Sunk) : Type 0 where
  pub deeds : List Deed
  -- a call of the device failed in it
  pub failure : Bool
  -- the sink failed in it
  pub lost : Bool
  pub led : Did act old.world new.world (λ w es. LeadOn flow settings h k deeds w es × (unwaited ≡ true → HasFailedWait es))
  pub given : HasGiven act old new
  pub stays : failure ≡ false → IsSome old.world → IsSome new.world
  pub cause : HasCause old.faults new.faults failure
  pub fails : unwaited ≡ true → failure ≡ true
  pub waits : k.halt.only_waits ≡ (h.halt.only_waits || failure)
  pub steady : IsSteady flow settings h → IsSteady flow settings k
  pub alive : IsLive k.live
  pub seats : AreSeated h.places old.running → AreSeated k.places new.running
  pub counts : IsBarelyMore h.tally k.tally
  -- no line goes to the sink once it has failed; and that is what came first, where the first fault is that
  pub silent : (h.telling ≡ false) ⊎ (lost ≡ true) → k.telling ≡ false
  pub outputs : k.halt.fault ≡ Some fault.Output → (h.halt.fault ≡ Some fault.Output) ⊎ (lost ≡ true)
  pub text : HasReported (TellsOn flow h k deeds) out_old out_new lost
