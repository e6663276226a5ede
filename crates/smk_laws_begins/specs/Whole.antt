-- What a whole run did: it begins, goes on by turns, and ends.
use Rattle.std.specs.Prelude.{◌≡◌, ◌⊎◌, Bool, true, false, List, [], ◌++◌, is_none, Option, Some, None, Result, Ok, Err, IfErr, IfOk, is_ok}
use Rattle.std.specs.List.{list_all}
use Rattle.smk_world.specs.declared.event.Event.{Event}
use Rattle.smk_world.specs.World.{World}
use Rattle.smk_world.specs.Devices.{Device, HasActed, IsSoundDevice, Sunk, WhereTold}
use Rattle.smk_world.specs.Trees.{Act, Path}
use Rattle.smk_flow.specs.Flows.{Flow}
use Rattle.smk_store.specs.Unowned.{NoneOwned}
use Rattle.smk_pick.specs.declared.settings.Settings.{Settings}
use Rattle.smk_report.specs.Lines.{Text, summary_line}
use Rattle.smk_report.specs.declared.fault.Fault.{Fault}
use Rattle.smk_report.specs.declared.fault.Fault.TheVariants as fault
use Rattle.smk_run.specs.Reports.{HasReported, IsFront}
use Rattle.smk_plan_live.specs.Lives.{IsLive}
use Rattle.smk_plan_preview.specs.Faults.{device_failed, is_sink}
use Rattle.smk_drive.specs.Moments.{Rules}
use Rattle.smk_drive_course.specs.declared.ending.End.{End}
use Rattle.smk_drive_course.specs.Driven.{HasDriven, IsOpening, is_output}
use Rattle.smk_drive_course.specs.Reports.{may_lose, target_lines}
use Rattle.smk_drive_course.specs.Stands.{NoneLeft}
use Rattle.smk_drive_first.specs.declared.opening.Opened.{Opened}
use Rattle.smk_drive_first.specs.Opening.{AreRules, HasStopped, IsOpened}
use Rattle.smk_laws_turns.specs.Hubs.{Parts}
use Rattle.smk_drive_hub.specs.Keeping.{IsAtStart}
use Rattle.smk_drive_hub.specs.Turned.{WhereUnhalted}
use Rattle.smk_laws_begins.specs.Ended.{EndsWell, IsAllMade, IsEndOf}
use Rattle.smk_laws_begins.specs.Opened.{AreSourcesAt, OpenedIsAt}
use Rattle.smk_laws_begins.specs.Gone.{HasGone}

-- ## As it begins

-- The run has opened in that world, and stands at its start with this; what none of the jobs of its plan makes are sources there.
pub record HasEntered (rules : Rules) (settings : Settings) (w : World) (es : List Event) (h : Parts) : Type 0 where
  pub found : Opened
  pub opens : IsOpening rules w (Ok tt) es
  pub is : IsOpened rules w found
  pub sources : AreSourcesAt rules w found.live
  pub start : IsAtStart settings found.live found.next h

-- It has, and keeps this; or it hasn't opened.
abbrev pub EntersAs : Rules → Settings → World → List Event → Result Parts Fault → Type 0
EntersAs rules settings w es (Ok h) = HasEntered rules settings w es h
EntersAs rules settings w es (Err f) = HasStopped rules w es f

-- a run at its start, by some plan
pub record IsNew (settings : Settings) (h : Parts) : Type 0 where
  pub found : Opened
  pub start : IsAtStart settings found.live found.next h
  pub alive : IsLive h.live

-- What a run did until it stands at its start, by whatever rules it goes, where no running child owns a place.
pub record HasBegunRun (act : Act) (flow : Flow) (settings : Settings) (result : Result Parts Fault) (old new : Device) : Type 0 where
  pub acted :
      HasActed act (λ w es. NoneOwned w → (rules : Rules) → AreRules flow settings rules → EntersAs rules settings w es result) old new (device_failed result)
  pub is_new : IfOk result (IsNew settings)
  pub no_sink : IfErr result (λ f. is_sink f ≡ false)

-- ## As it goes on

-- Its turns are over: unless a wait failed no child runs; and where no fault has come nothing that may start is left.
pub record IsThrough (flow : Flow) (settings : Settings) (k : Parts) (unwaited : Bool) (new : Device) : Type 0 where
  pub idle : unwaited ≡ false → list_all is_none k.places ≡ true
  pub none_left : k.halt.fault ≡ None → WhereTold new (λ w. WhereUnhalted NoneLeft flow settings k w)

-- ## As it ends

-- the last lines, of a run that came to tell this at its end
abbrev pub closing_for : List Path → Option End → Text
closing_for targets None = []
closing_for targets (Some end) = target_lines targets end.current ++ summary_line end.started end.done end.failed

-- they were put; or a front of them, where a fault came as they were
abbrev pub IsClosing : List Path → Option End → Result End Fault → Text → Type 0
IsClosing targets told (Ok end) text = text ≡ closing_for targets told
IsClosing targets None (Err f) text = text ≡ []
IsClosing targets (Some end) (Err f) text = IsFront text (closing_for targets (Some end))

-- What is answered at the end, where this is kept: the first fault that came; or, where none had come, one as it was to be told how the run ended; or that.
pub data IsConclusion (k : Parts) : Option End → Result End Fault → Type 0 where
  Faulted : (f : Fault) → k.halt.fault ≡ Some f → IsConclusion k None (Err f)
  Untold : (f : Fault) → k.halt.fault ≡ None → may_lose f ≡ true → IsConclusion k None (Err f)
  Unput :
      (end : End) (f : Fault) →
      k.halt.fault ≡ None → IsEndOf k end → (k.tally.failed ≡ 0 → IsAllMade k) → may_lose f ≡ true → IsConclusion k (Some end) (Err f)
  Told : (end : End) → k.halt.fault ≡ None → IsEndOf k end → (k.tally.failed ≡ 0 → IsAllMade k) → IsConclusion k (Some end) (Ok end)

-- The end was told and answered.
pub record HasConcluded (targets : List Path) (k : Parts) (result : Result End Fault) (out_old out_new : Sunk) : Type 0 where
  pub told : Option End
  -- the sink failed in this
  pub lost : Bool
  pub concludes : IsConclusion k told result
  pub text : HasReported (IsClosing targets told result) out_old out_new lost
  pub loses : is_output result ≡ true → (k.halt.fault ≡ Some fault.Output) ⊎ (lost ≡ true)
  pub whole : is_ok result ≡ true → lost ≡ false

-- ## The whole

-- A run that doesn't open has done so much.
abbrev pub UnopenedRun : Type 0
UnopenedRun =
    (act : Act) (flow : Flow) (settings : Settings) (f : Fault) (old new : Device) (q : Sunk) →
    IsSoundDevice old →
    old.running ≡ [] →
    HasBegunRun act flow settings (Err f) old new → (rules : Rules) → AreRules flow settings rules → HasDriven act rules (Err f) old new q q

-- And so much one that opens, goes on until its turns are over, and tells how it ended.
abbrev pub WholeRun : Type 0
WholeRun =
    (act : Act) (flow : Flow) (settings : Settings) (h k : Parts) (unwaited : Bool) (result : Result End Fault) (a b c : Device) (p q r : Sunk) →
    OpenedIsAt →
    EndsWell →
    IsSoundDevice a →
    a.running ≡ [] →
    HasBegunRun act flow settings (Ok h) a b →
    HasGone act flow settings h k unwaited b c p q →
    IsThrough flow settings k unwaited c →
    HasConcluded settings.targets k result q r → (rules : Rules) → AreRules flow settings rules → HasDriven act rules result a c p r
