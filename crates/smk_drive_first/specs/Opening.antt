-- How a run opens.
use Rattle.std.specs.Prelude.{◌≡◌, ◌⊎◌, ◌++◌, ℕ, true, List, [], map, Option, Some, Result, Ok, Err}
use Rattle.smk_world.specs.declared.event.Event.{Event}
use Rattle.smk_world.specs.World.{World}
use Rattle.smk_world.specs.Devices.{Device, HasActed, AreLooks}
use Rattle.smk_world.specs.Requests.{HasDone, IsCutShort}
use Rattle.smk_world.specs.Trees.{Act}
use Rattle.smk_record.specs.declared.record.Record.{Record}
use Rattle.smk_record.specs.Records.{are_rising}
use Rattle.smk_record.specs.Spelling.{ReadsRecords}
use Rattle.smk_flow.specs.Flows.{Flow}
use Rattle.smk_format.specs.Commands.{missing, command}
use Rattle.smk_store.specs.Images as images
use Rattle.smk_store.specs.Loading.{IsStoreOf}
use Rattle.smk_store.specs.Serials.{next_serial}
use Rattle.smk_store.specs.Steadying.{steady_requests}
use Rattle.smk_store.specs.Stores.{Known}
use Rattle.smk_store.specs.Unowned.{NoneOwned}
use Rattle.smk_pick.specs.declared.settings.Settings.{Settings}
use Rattle.smk_plan.specs.States.{Plan}
use Rattle.smk_keep.specs.declared.fault.KeepFault.{KeepFault}
use Rattle.smk_keep.specs.declared.fault.KeepFault.TheVariants.{Device as DeviceFault, OutOfMemory as MemoryFault}
use Rattle.smk_report.specs.declared.fault.Fault.{Fault}
use Rattle.smk_report.specs.declared.fault.Fault.TheVariants as fault
use Rattle.smk_drive.specs.Moments.{Rules, seen}
use Rattle.smk_plan_live.specs.Live.{LivePlan}
use Rattle.smk_plan_preview.specs.Faults.{device_failed}
use Rattle.smk_plan_live.specs.Lives.{IsAgreed}
use Rattle.smk_drive_course.specs.Driven.{IsOpening}
use Rattle.smk_drive_course.specs.Stands.{IsClear, Refuses, first_stand}
use Rattle.smk_drive_first.specs.declared.opening.Opened.{Opened}
use Rattle.smk_drive_first.specs.Keeping.{HasKeptLast, IsFresh, plan_in}

-- A run by this workflow and these settings goes by these rules.
pub record AreRules (flow : Flow) (settings : Settings) (rules : Rules) : Type 0 where
  pub flow_is : rules.flow ≡ flow
  pub settings_are : rules.settings ≡ settings
  pub reads : ReadsRecords rules.read
  pub fields : rules.missing ≡ missing
  pub texts : rules.command ≡ command

-- the serial that is drawn first is the next one by this store, in which each path is told once
pub record IsNextBy (store : List Known) (next : Option ℕ) : Type 0 where
  pub is : next ≡ next_serial store
  pub rising : are_rising (map (λ (k : Known). k.path) store) ≡ true

-- It is the next one by the store that the image has, where that has 64 bits.
pub record IsNextSerial (image : images.Image) (next : Option ℕ) : Type 0 where
  pub store : List Known
  pub stored : IsStoreOf image store
  pub by : IsNextBy store next

-- In a world in which the run begins: the kept plan is in force and none of its chain is refused, it agrees with the folder, and none of its jobs has begun; and the
-- serial that is drawn first is the next one above all that unmarked records name.
pub record IsOpened (rules : Rules) (w : World) (o : Opened) : Type 0 where
  pub fresh : IsFresh rules.settings o.live
  pub agrees : IsAgreed (seen rules w) rules.settings o.live.base
  pub clear : IsClear rules (first_stand (Some (plan_in o.live))) w []
  pub next : IsNextSerial (seen rules w) o.next

-- A run that begins in this world doesn't open: its plans are refused, whichever one is in force; or a call fails; or memory is wanting, before marks and notes are
-- made firm or afterwards.
pub data HasStopped (rules : Rules) (w : World) (es : List Event) : Fault → Type 0 where
  IsRefused :
      (f : Fault) → ((plan : Option Plan) → Refuses rules w (first_stand plan) w [] f) → IsOpening rules w (Ok tt) es → HasStopped rules w es f
  CallFails : IsOpening rules w (Err DeviceFault) es → HasStopped rules w es fault.Device
  NoMemory :
      (opened : Result (Unit {0}) KeepFault) →
      (opened ≡ Ok tt) ⊎ (opened ≡ Err MemoryFault) → IsOpening rules w opened es → HasStopped rules w es fault.OutOfMemory

abbrev pub IsOutcome : Rules → World → List Event → Result Opened Fault → Type 0
IsOutcome rules w es (Ok o) = IsOpening rules w (Ok tt) es × IsOpened rules w o
IsOutcome rules w es (Err f) = HasStopped rules w es f

-- What a run did as it opened, by whatever rules it goes, where no running child owns a place.
pub record HasOpened (act : Act) (flow : Flow) (settings : Settings) (result : Result Opened Fault) (old new : Device) : Type 0 where
  pub acted :
      HasActed act (λ w es. NoneOwned w → (rules : Rules) → AreRules flow settings rules → IsOutcome rules w es result) old new (device_failed result)

-- ## Behind the loading

abbrev pub live_of : Result Opened Fault → Result LivePlan Fault
live_of (Ok o) = Ok o.live
live_of (Err f) = Err f

-- The marks and notes of the store are made firm, and the plan is made of the folder; or the call that makes them firm fails; or there is no memory for it.
pub data GoesOn (read : List ℕ → Option Record) (flow : Flow) (settings : Settings) (image : images.Image) (store : List Known) : Result Opened Fault → List Event → Type 0 where
  Plans :
      (result : Result Opened Fault) (settling looks : List Event) →
      HasDone (steady_requests store) settling → AreLooks (device_failed result) looks →
      HasKeptLast read flow settings image (live_of result) → GoesOn read flow settings image store result (settling ++ looks)
  IsCut : (settling : List Event) → IsCutShort (steady_requests store) settling → GoesOn read flow settings image store (Err fault.Device) settling
  IsShort : GoesOn read flow settings image store (Err fault.OutOfMemory) []
