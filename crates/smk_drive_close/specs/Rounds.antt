-- One round in which the plan of a run grows.
use Rattle.std.specs.Prelude.{◌≡◌, ◌++◌, true, false, List, None, Result, Ok, Err}
use Rattle.smk_world.specs.declared.event.Event.{Event}
use Rattle.smk_world.specs.Devices.{AreLooks, Device, HasActed}
use Rattle.smk_world.specs.Trees.{Act}
use Rattle.smk_world.specs.World.{World, run}
use Rattle.smk_flow.specs.Flows.{Flow}
use Rattle.smk_store.specs.Stores.{Known}
use Rattle.smk_chain.specs.declared.jobs.Jobs.{Jobs}
use Rattle.smk_pick.specs.declared.settings.Settings.{Settings}
use Rattle.smk_plan.specs.declared.fault.PlanFault.{PlanFault}
use Rattle.smk_plan.specs.declared.seen.Sight.{Sight}
use Rattle.smk_plan_table.specs.Plans.{fault_in}
use Rattle.smk_plan_live.specs.Changes.{HasGrown, IsRefusedGrown}
use Rattle.smk_plan_live.specs.Live.{LivePlan}
use Rattle.smk_plan_live.specs.Lives.{IsLive}
use Rattle.smk_report.specs.declared.fault.Fault.{Fault}
use Rattle.smk_report.specs.declared.fault.Fault.TheVariants as fault
use Rattle.smk_drive_step.specs.Crews.{goings, is_device}
use Rattle.smk_laws_turns.specs.Resting.{refused_command}
use Rattle.smk_laws_turns.specs.Hubs.{Parts, asks_in}
use Rattle.smk_laws_turns.specs.Turning.{faulted}
use Rattle.smk_laws_turns.specs.Moving.{moved}
use Rattle.smk_laws_turns.specs.GrowingRounds.{HasGrownOn, IsGrownBy, IsRefusedBy}
use Rattle.smk_laws_turns.specs.GrownIn.{HaveLines}

-- ## What was found is taken in

-- The plan has grown by these, and the children have the new numbers of their jobs.
pub record IsTakenIn (jobs : Jobs) (store : List Known) (fresh : List Sight) (h k : Parts) : Type 0 where
  pub grown : HasGrown jobs store fresh h.live k.live
  pub is : k ≡ record h { live = k.live; places = moved h.live.base.jobs.jobs jobs.jobs h.places }

-- The plan that would come by these is refused.
pub record IsGrowthRefused (flow : Flow) (jobs : Jobs) (store : List Known) (fresh : List Sight) (live : LivePlan) (f : Fault) : Type 0 where
  pub refusal : PlanFault
  pub refused : IsRefusedGrown live.settings jobs store fresh live.base refusal
  pub is : f ≡ fault_in flow refusal

-- ## A round

-- Beside the plan just the numbers of the children have changed.
pub record HasMoved (flow : Flow) (h k : Parts) : Type 0 where
  pub others : k ≡ record h { live = k.live; places = k.places }
  pub goings : goings k.places ≡ goings h.places
  pub asks : asks_in k.places ≡ asks_in h.places
  pub lines : HaveLines flow h.live h.places → HaveLines flow k.live k.places

module _ (flow : Flow) (settings : Settings) (w : World) (h k : Parts) where
  -- The plan has grown by a round, in which the folder was looked at; or that is refused, a look has failed, or memory is wanting, and nothing has changed.
  pub data IsRound : Result (Unit {0}) Fault → List Event → Type 0 where
    Grows : (looks : List Event) → AreLooks false looks → IsGrownBy flow settings w h k → IsRound (Ok tt) looks
    IsRefused : (f : Fault) (looks : List Event) → is_device f ≡ false → AreLooks false looks → IsRefusedBy flow settings w h f → k ≡ h → IsRound (Err f) looks
    LookFails : (looks : List Event) → AreLooks true looks → k ≡ h → IsRound (Err fault.Device) looks
    LacksMemory : (looks : List Event) → AreLooks false looks → k ≡ h → IsRound (Err fault.OutOfMemory) looks

  -- The same, and nothing is refused of the commands; or the fault is one with which the growth ends.
  abbrev pub IsRoundOn : Result (Unit {0}) Fault → List Event → Type 0
  IsRoundOn (Ok u) es = AreLooks false es × IsGrownBy flow settings w h k
  IsRoundOn (Err f) es = HasGrownOn flow settings w h (faulted f k) es

-- Whatever comes next, it comes after what was done since the beginning.
abbrev pub GoesOnFrom : Flow → Settings → Parts → Parts → World → List Event → Type 0
GoesOnFrom flow settings h k w es =
    (m : Parts) (more : List Event) → HasGrownOn flow settings (run w es) k m more → HasGrownOn flow settings w h m (es ++ more)

-- In rounds the plan has grown so far, and no fault came.
pub record HasCome (act : Act) (flow : Flow) (settings : Settings) (h k : Parts) (old new : Device) : Type 0 where
  pub acted : HasActed act (GoesOnFrom flow settings h k) old new false
  pub alive : IsLive k.live
  pub commands : refused_command flow settings k.live ≡ None
  pub moved : HasMoved flow h k
