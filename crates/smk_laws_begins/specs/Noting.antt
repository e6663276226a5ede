-- What is kept once a job has begun.
use Rattle.std.specs.Prelude.{◌≡◌, ◌≢◌, ◌⊎◌, ℕ, ◌+◌, Bool, false, ◌&&◌, List, [], ◌∷◌, ◌++◌, Some, None, Result, Ok, Err, IfErr, is_ok}
use Rattle.std.specs.List.{slice_get}
use Rattle.smk_base.specs.declared.tree.Amount.{Amount}
use Rattle.smk_flow.specs.declared.job.Job.{Job}
use Rattle.smk_flow.specs.Flows.{Flow}
use Rattle.smk_trigger.specs.declared.reason.State.{State}
use Rattle.smk_pick.specs.declared.room.Ask.{Ask}
use Rattle.smk_pick.specs.declared.settings.Settings.{Settings}
use Rattle.smk_pick.specs.Shares.{Holds}
use Rattle.smk_report.specs.Lines.{Text}
use Rattle.smk_report.specs.declared.fault.Fault.{Fault}
use Rattle.smk_report.specs.declared.fault.Fault.TheVariants as fault
use Rattle.smk_job.specs.Jobs.{Underway}
use Rattle.smk_job.specs.declared.fault.BeginFault.{BeginFault}
use Rattle.smk_job.specs.declared.fault.BeginFault.TheVariants.{TooLong, Device, OutOfMemory}
use Rattle.smk_plan_live.specs.Live.{LivePlan}
use Rattle.smk_plan_live.specs.Carried.{begun}
use Rattle.smk_plan_live.specs.Lives.{IsLive}
use Rattle.smk_drive_step.specs.declared.children.Child.{Child}
use Rattle.smk_drive_step.specs.Crews.{IsPutFor, is_device}
use Rattle.smk_drive_hub.specs.Keeping.{heeded}
use Rattle.smk_laws_turns.specs.Hubs.{Parts}
use Rattle.smk_laws_turns.specs.Resting.{IsAnswerOf}
use Rattle.smk_laws_begins.specs.Fitting.{next_after}

-- ## The plan

-- The plan was told that the job of the number has begun, and this is the answer, which tells of no call of the device and not of the sink.
pub record IsToldBegun (flow : Flow) (settings : Settings) (number : ℕ) (old new : LivePlan) (answer : Result (Unit {0}) Fault) : Type 0 where
  pub alive : IsLive new
  pub settings_stay : new.settings ≡ old.settings
  pub jobs_stay : new.base.jobs ≡ old.base.jobs
  pub answers :
      (state : State) (j : Job) →
      old.settings ≡ settings → slice_get old.plan.states number ≡ Some state → slice_get old.base.jobs.jobs number ≡ Some j →
      IsAnswerOf flow settings (begun number state j old.base) new answer
  pub quiet : IfErr answer (λ f. (is_device f ≡ false) × (f ≢ fault.Output))

-- ## What is kept

-- the child of the job of the number, which asks for this and has this line where it ends well
abbrev pub child_of : Underway → ℕ → Ask → Text → Child
child_of going number ask done = record { going = going; job = number; ask = ask; done = done }

-- What is answered where the plan was told and the line of the start was put: the line may be missing only where that or want of memory is what came first.
abbrev pub told_and_put : Result (Unit {0}) Fault → Result (Unit {0}) Fault → Result (Unit {0}) Fault
told_and_put (Ok u) put = put
told_and_put (Err f) (Ok u) = Err f
told_and_put (Err f) (Err g) = Err fault.OutOfMemory

-- The child is in a place that was free, and what the job asks for is taken of the room; the start is counted, the serial drawn; the plan was told, and the line
-- put.
pub record HasNoted
    (flow : Flow) (settings : Settings) (h k : Parts) (number : ℕ) (draws : Bool) (child : Child) (told put : Result (Unit {0}) Fault) : Type 0 where
  pub placed : IsPutFor None (Some child) h.places k.places
  pub room : (cores : ℕ) (bounds : List Amount) (asks : List Ask) → Holds cores bounds h.room asks → Holds cores bounds k.room (asks ++ child.ask ∷ [])
  pub counted : k.tally ≡ record h.tally { started = h.tally.started + 1 }
  pub drawn : k.next ≡ next_after draws h.next
  pub plan : IsToldBegun flow settings number h.live k.live told
  pub lost : IfErr put (λ f. f ≡ fault.Output)
  pub halted : k.halt ≡ (heeded (told_and_put told put) h).halt
  pub telling : k.telling ≡ (h.telling && is_ok put)

-- ## Faults

-- why the job of this rule doesn't begin, as a fault; or memory is wanting for the rule's name
abbrev pub IsBeginFault : Text → BeginFault → Fault → Type 0
IsBeginFault rule (TooLong bytes) f = (f ≡ fault.TooLong rule bytes) ⊎ (f ≡ fault.OutOfMemory)
IsBeginFault rule Device f = f ≡ fault.Device
IsBeginFault rule OutOfMemory f = f ≡ fault.OutOfMemory
