-- What some turns of a run did, one after another.
use Rattle.std.specs.Prelude.{◌≡◌, ◌⊎◌, Bool, true, false, ◌||◌, List, Some, IsSome}
use Rattle.smk_world.specs.Calls.{HasCause}
use Rattle.smk_world.specs.Devices.{Device, Sunk}
use Rattle.smk_world.specs.Runs.{Did}
use Rattle.smk_world.specs.Trees.{Act}
use Rattle.smk_flow.specs.Flows.{Flow}
use Rattle.smk_pick.specs.declared.settings.Settings.{Settings}
use Rattle.smk_report.specs.declared.fault.Fault.TheVariants as fault
use Rattle.smk_run.specs.Reports.{HasReported}
use Rattle.smk_run.specs.Statuses.{HasGiven}
use Rattle.smk_plan_live.specs.Lives.{IsLive}
use Rattle.smk_drive_course.specs.Steps.{Deed}
use Rattle.smk_laws_turns.specs.Hubs.{Parts}
use Rattle.smk_laws_turns.specs.Turning.{faulted}
use Rattle.smk_drive_hub.specs.Turned.{AreSeated, HasFailedWait, HasTurned, IsSteady, LeadOn, TellsOn}

-- What any number of turns did, as one turn does; but the counts may have grown by any number.
pub record HasGone (act : Act) (flow : Flow) (settings : Settings) (h k : Parts) (unwaited : Bool) (old new : Device) (out_old out_new : Sunk) : Type 0 where
  pub deeds : List Deed
  -- a call of the device failed in them
  pub failure : Bool
  -- the sink failed in them
  pub lost : Bool
  pub led : Did act old.world new.world (λ w es. LeadOn flow settings h k deeds w es × (unwaited ≡ true → HasFailedWait es))
  pub given : HasGiven act old new
  pub stays : failure ≡ false → IsSome old.world → IsSome new.world
  pub cause : HasCause old.faults new.faults failure
  pub fails : unwaited ≡ true → failure ≡ true
  pub waits : k.halt.only_waits ≡ (h.halt.only_waits || failure)
  pub steady : IsSteady flow settings h → IsSteady flow settings k
  pub alive : IsLive k.live
  pub seats : AreSeated h.places old.running → AreSeated k.places new.running
  pub silent : (h.telling ≡ false) ⊎ (lost ≡ true) → k.telling ≡ false
  pub outputs : k.halt.fault ≡ Some fault.Output → (h.halt.fault ≡ Some fault.Output) ⊎ (lost ≡ true)
  pub text : HasReported (TellsOn flow h k deeds) out_old out_new lost

-- Nothing was done.
abbrev pub GoesNowhere : Type 0
GoesNowhere =
    (act : Act) (flow : Flow) (settings : Settings) (h : Parts) (d : Device) (q : Sunk) → IsLive h.live → HasGone act flow settings h h false d d q q

-- One turn is some.
abbrev pub GoesOnce : Type 0
GoesOnce =
    (act : Act) (flow : Flow) (settings : Settings) (h k : Parts) (unwaited : Bool) (a b : Device) (p q : Sunk) →
    HasTurned act flow settings h k unwaited a b p q → HasGone act flow settings h k unwaited a b p q

-- Some turns, and then others.
abbrev pub GoesFurther : Type 0
GoesFurther =
    (act : Act) (flow : Flow) (settings : Settings) (h k m : Parts) (early late : Bool) (a b c : Device) (p q r : Sunk) →
    HasGone act flow settings h k early a b p q → HasGone act flow settings k m late b c q r → HasGone act flow settings h m (early || late) a c p r

-- No job begins any more, since memory is wanting.
abbrev pub GoesHeld : Type 0
GoesHeld =
    (act : Act) (flow : Flow) (settings : Settings) (h : Parts) (d : Device) (q : Sunk) →
    IsLive h.live → HasGone act flow settings h (faulted fault.OutOfMemory h) false d d q q
