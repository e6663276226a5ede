-- The turn of a run that waits for a child.
use Rattle.std.specs.Prelude.{◌≡◌, ◌≢◌, ◌⊎◌, ◌||◌, ℕ, Bool, true, false, List, Some, None}
use Rattle.smk_world.specs.Devices.{Device, HasActed, Sunk}
use Rattle.smk_world.specs.Trees.{Act}
use Rattle.smk_flow.specs.Flows.{Flow}
use Rattle.smk_pick.specs.declared.settings.Settings.{Settings}
use Rattle.smk_report.specs.Lines.{Text}
use Rattle.smk_report.specs.declared.fault.Fault.{Fault}
use Rattle.smk_report.specs.declared.fault.Fault.TheVariants as fault
use Rattle.smk_run.specs.Reports.{HasReported}
use Rattle.smk_drive_step.specs.declared.children.Child.{Child}
use Rattle.smk_drive_step.specs.declared.halt.Halt.{Halt}
use Rattle.smk_drive_course.specs.Steps.{Deed}
use Rattle.smk_laws_turns.specs.Hubs.{Parts}
use Rattle.smk_drive_hub.specs.Turned.{IsBarelyMore, IsSoundHalt, TellsOn}
use Rattle.smk_laws_closes.specs.Closes.{HasClosedFor}
use Rattle.smk_laws_closes.specs.Learning.{IsSamePlan}
use Rattle.smk_laws_closes.specs.Lines.{IsLineOf}

-- These faults came, too, where a call of the device failed or none did.
pub record IsHaltedOn (old new : Halt) (failure : Bool) : Type 0 where
  pub waits : new.only_waits ≡ (old.only_waits || failure)
  pub stays : (f : Fault) → old.fault ≡ Some f → new.fault ≡ Some f
  pub sound : IsSoundHalt old → IsSoundHalt new

-- What was put tells what was done, where the child had the line of the end of its job, and no call had failed.
abbrev pub TellsEnd : Flow → Parts → Parts → Child → List Deed → Text → Type 0
TellsEnd flow h k c deeds text = IsLineOf flow h.live c → IsSoundHalt h.halt → h.halt.only_waits ≡ false → TellsOn flow h k deeds text

-- What was done once a child had ended with this status and was taken from its place, from what was kept then to what is kept afterwards.
pub record HasFollowed
    (act : Act) (flow : Flow) (settings : Settings) (h k : Parts) (c : Child) (status : ℕ) (old new : Device) (out_old out_new : Sunk) : Type 0 where
  pub deeds : List Deed
  pub failure : Bool
  pub lost : Bool
  pub acted : HasActed act (λ v es. HasClosedFor flow settings h c status v es k deeds) old new failure
  pub places : k.places ≡ h.places
  pub room : k.room ≡ h.room
  pub plan : IsSamePlan h.live k.live
  pub halts : IsHaltedOn h.halt k.halt failure
  pub counts : IsBarelyMore h.tally k.tally
  pub silent : (h.telling ≡ false) ⊎ (lost ≡ true) → k.telling ≡ false
  -- where no line goes to the sink some fault has come
  pub missing : (h.telling ≡ false → h.halt.fault ≢ None) → k.telling ≡ false → k.halt.fault ≢ None
  pub outputs : k.halt.fault ≡ Some fault.Output → (h.halt.fault ≡ Some fault.Output) ⊎ (lost ≡ true)
  pub text : HasReported (TellsEnd flow h k c deeds) out_old out_new lost
