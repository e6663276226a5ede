-- How a run ends where each target has a clean value.
use Rattle.std.specs.Prelude.{◌≡◌, ℕ, Bool, List, [], Option, None, Result, Ok, Err}
use Rattle.smk_world.specs.declared.event.Event.{Event}
use Rattle.smk_world.specs.World.{World}
use Rattle.smk_world.specs.Calls.{HasOwners, HoldsBytes}
use Rattle.smk_world.specs.Runs.{Follows}
use Rattle.smk_world.specs.Trees.{Path}
use Rattle.smk_pattern.specs.Shapes.{Text}
use Rattle.smk_flow.specs.declared.job.Job.{Job}
use Rattle.smk_flow.specs.Flows.{Flow}
use Rattle.smk_store.specs.Images.{seen}
use Rattle.smk_store.specs.Trust.{Versions, SumsDiffer}
use Rattle.smk_store.specs.Soundness.{Outside, SoundWorld}
use Rattle.smk_chain.specs.Mean.{setting_of}
use Rattle.smk_pick.specs.declared.settings.Settings.{Settings}
use Rattle.smk_plan.specs.States.{Plan, LastPlan, nothing_done}
use Rattle.smk_report.specs.declared.fault.Fault.{Fault}
use Rattle.smk_report.specs.declared.fault.Fault.TheVariants as fault
use Rattle.smk_plan.specs.declared.duty.Duty.{Duty}
use Rattle.smk_run.specs.declared.tally.Tally.{Tally}
use Rattle.smk_plan.specs.Duties.{AreFor}
use Rattle.smk_run.specs.Duties.{due}
use Rattle.smk_run.specs.Runs.{AreInOrder, IsOutcome}
use Rattle.smk_run.specs.Stamps.{Serials}
use Rattle.smk_run.specs.Statuses.{AreGiven}
use Rattle.smk_run.specs.Turns.{Turn, AreTurns}
use Rattle.smk_laws_complete.specs.Derived.{AllHaveValues, GathersAlone}
use Rattle.smk_laws_driven.specs.Planning.{IsPlainPlan}

-- A fault with which a run may stop although each target has a clean value: memory, the device or the sink; or no serial is left, or a record is too long.
pub data MayBreakOff : Fault → Type 0 where
  NoMemory : MayBreakOff fault.OutOfMemory
  DeviceFailed : MayBreakOff fault.Device
  SinkFailed : MayBreakOff fault.Output
  NoSerial : MayBreakOff fault.Serials
  LongRecord : (rule : Text) (bytes : ℕ) → MayBreakOff (fault.TooLong rule bytes)

-- no job failed, or the run broke off
abbrev pub EndsWell : Result Tally Fault → Type 0
EndsWell (Ok tally) = tally.first ≡ None
EndsWell (Err f) = MayBreakOff f

-- what is a file stays so, with its bytes
abbrev pub KeepsFiles : World → World → Type 0
KeepsFiles w v = (p : Path) (bytes : List ℕ) → HoldsBytes bytes (w.nodes p) → HoldsBytes bytes (v.nodes p)

-- A run by a last plan of a sound world, where each target has a clean value and the jobs make plain files and gather nothing: no job fails, and no
-- input is found gone. It begins in a world in which the files still stand; and each wait tells its command's status.
abbrev pub RunsAreComplete : Type 0
RunsAreComplete =
    (flow : Flow) (o : Outside) (has_fields : Job → Bool) (w v : World) (H : Versions) (settings : Settings) (plan : Plan) (cores : ℕ)
    (first : Option ℕ) (duties : List Duty) (turns : List Turn) (failed : Bool) (ended : Result Tally Fault) (made : Serials) (es : List Event) →
    SumsDiffer H →
    SoundWorld o w H →
    LastPlan flow (seen o.read w) settings nothing_done [] plan →
    GathersAlone flow →
    AllHaveValues (setting_of flow o.act has_fields (seen o.read w)) settings.targets →
    IsPlainPlan plan →
    KeepsFiles w v →
    v.children ≡ [] →
    HasOwners v →
    AreFor plan.states duties →
    AreInOrder cores (due first duties plan.jobs) turns →
    IsOutcome flow (due first duties plan.jobs) turns failed ended →
    Follows o.act v es → AreGiven o.act ⊥ v es → AreTurns made turns v es → EndsWell ended
