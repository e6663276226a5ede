-- What was done as the plan of a run grew, be a world told or not.
use Rattle.std.specs.Prelude.{◌≡◌, ◌≢◌, ◌⊎◌, Bool, false, List, Option, Some}
use Rattle.std.specs.List.{slice_get}
use Rattle.smk_world.specs.Devices.{Device, HasActed}
use Rattle.smk_world.specs.Trees.{Act, IsIn}
use Rattle.smk_flow.specs.declared.job.Job.{Job}
use Rattle.smk_flow.specs.Flows.{Flow}
use Rattle.smk_pick.specs.declared.settings.Settings.{Settings}
use Rattle.smk_plan_live.specs.Live.{LivePlan}
use Rattle.smk_plan_live.specs.Lives.{IsLive}
use Rattle.smk_report.specs.Lines.{done_line}
use Rattle.smk_report.specs.declared.fault.Fault.{Fault}
use Rattle.smk_report.specs.declared.fault.Fault.TheVariants as fault
use Rattle.smk_drive.specs.Reports.{named_job}
use Rattle.smk_drive_step.specs.declared.children.Child.{Child}
use Rattle.smk_drive_step.specs.declared.halt.Halt.{Halt}
use Rattle.smk_drive_step.specs.Crews.{goings, halted_by, is_device}
use Rattle.smk_laws_turns.specs.Hubs.{Parts, asks_in}
use Rattle.smk_laws_turns.specs.GrowingRounds.{HasGrownOn}

-- No fault came, and no call of the device failed; or this fault came, which is the device's just where a call of it failed, and never the sink's.
abbrev pub IsHaltedOnce : Halt → Halt → Bool → Type 0
IsHaltedOnce old new failure =
    ((failure ≡ false) × (new ≡ old)) ⊎ ((f : Fault) × (is_device f ≡ failure) × (f ≢ fault.Output) × (new ≡ halted_by f old))

-- each child in these places has the line of the end of its job
abbrev pub HaveLines : Flow → LivePlan → List (Option Child) → Type 0
HaveLines flow live places =
    (c : Child) → IsIn places (Some c) → (j : Job) → slice_get live.base.jobs.jobs c.job ≡ Some j → c.done ≡ done_line (named_job flow j)

-- The plan has grown in whatever rounds, from what was kept before to what is kept now.
pub record HasGrownIn (act : Act) (flow : Flow) (settings : Settings) (h k : Parts) (old new : Device) : Type 0 where
  -- a call of the device failed in it
  pub failure : Bool
  pub acted : HasActed act (λ w es. HasGrownOn flow settings w h k es) old new failure
  pub alive : IsLive k.live
  -- beside the plan just the numbers of the children and the faults may have changed
  pub others : k ≡ record h { live = k.live; places = k.places; halt = k.halt }
  pub goings : goings k.places ≡ goings h.places
  pub asks : asks_in k.places ≡ asks_in h.places
  pub halts : IsHaltedOnce h.halt k.halt failure
  pub lines : HaveLines flow h.live h.places → HaveLines flow k.live k.places
