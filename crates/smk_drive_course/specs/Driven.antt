-- What a run has done when it ends.
use Rattle.std.specs.Prelude.{◌≡◌, ◌⊎◌, Bool, true, false, List, [], ◌∷◌, ◌++◌, Option, Some, None, Result, Ok, Err, IsTrue, is_ok}
use Rattle.std.specs.List.{list_all}
use Rattle.smk_base.specs.Place.{mark_place, note_place}
use Rattle.smk_world.specs.declared.event.Event.{Event}
use Rattle.smk_world.specs.World.{World, run}
use Rattle.smk_world.specs.Devices.{Device, Sunk, HasEnded, AreLooks}
use Rattle.smk_world.specs.Requests.{HasDone, IsCutShort}
use Rattle.smk_world.specs.Requests.Request.{Settle}
use Rattle.smk_world.specs.Trees.{Act, IsIn, Path, among}
use Rattle.smk_store.specs.Images.{Image}
use Rattle.smk_trigger.specs.JobStates.{is_clean}
use Rattle.smk_plan.specs.States.{Plan, none_or_one}
use Rattle.smk_keep.specs.declared.fault.KeepFault.{KeepFault}
use Rattle.smk_keep.specs.declared.fault.KeepFault.TheVariants.{Device as DeviceFault, OutOfMemory}
use Rattle.smk_report.specs.declared.fault.Fault.{Fault}
use Rattle.smk_report.specs.declared.fault.Fault.TheVariants as fault
use Rattle.smk_run.specs.Reports.{HasReported}
use Rattle.smk_run.specs.Statuses.{HasGiven}
use Rattle.smk_drive.specs.Moments.{Rules, seen}
use Rattle.smk_drive.specs.Lawful.{is_failed_wait}
use Rattle.smk_drive_course.specs.declared.ending.End.{End}
use Rattle.smk_drive_course.specs.Stands.{Stand, IsPlanned, NoneLeft, first_stand, moment_of}
use Rattle.smk_drive_course.specs.Steps.{Deed, GoesByAnswer}
use Rattle.smk_drive_course.specs.Breaks.{Steps}
use Rattle.smk_drive_course.specs.Reports.{IsReport, IsTold, is_device, may_lose}

-- every mark and note that stands is among these places
pub record HasSigns (image : Image) (places : List Path) : Type 0 where
  pub marks : (p : Path) → image.marked p ≡ true → IsTrue (among places (mark_place p))
  pub notes : (p : Path) → image.noted p ≡ true → IsTrue (among places (note_place p))

-- A run begins in this world: the folder is looked at, the marks and notes of earlier runs are made firm, and the folder is looked at; or a call fails in
-- this, or memory is wanting.
pub data IsOpening (rules : Rules) (w : World) : Result (Unit {0}) KeepFault → List Event → Type 0 where
  Opens :
      (loading settling looks : List Event) (places : List Path) →
      AreLooks false loading →
      HasSigns (seen rules w) places →
      HasDone (Settle places ∷ []) settling → AreLooks false looks → IsOpening rules w (Ok tt) (loading ++ (settling ++ looks))
  LacksMemory : (loading : List Event) → AreLooks false loading → IsOpening rules w (Err OutOfMemory) loading
  LoadingFails : (loading : List Event) → AreLooks true loading → IsOpening rules w (Err DeviceFault) loading
  SettlingFails :
      (loading settling : List Event) (places : List Path) →
      AreLooks false loading →
      HasSigns (seen rules w) places → IsCutShort (Settle places ∷ []) settling → IsOpening rules w (Err DeviceFault) (loading ++ settling)
  LooksFail :
      (loading settling looks : List Event) (places : List Path) →
      AreLooks false loading →
      HasSigns (seen rules w) places →
      HasDone (Settle places ∷ []) settling → AreLooks true looks → IsOpening rules w (Err DeviceFault) (loading ++ (settling ++ looks))

-- all jobs of the plan are Clean
abbrev pub are_clean : Option Plan → Bool
are_clean plan = list_all (λ (p : Plan). list_all is_clean p.states) (none_or_one plan)

-- A run came to its end, and tells this: no fault came, no child runs, and nothing is left that may start. Where no job failed all jobs are Clean, and all
-- targets current.
pub record HasEndedWell (rules : Rules) (w : World) (events : List Event) (deeds : List Deed) (s : Stand) (end : End) : Type 0 where
  pub unhalted : s.halted ≡ None
  pub idle : s.runs ≡ []
  pub none_left : NoneLeft rules s w events
  pub told : IsTold rules deeds (moment_of s w events) end
  pub clean : end.failed ≡ 0 → IsTrue (are_clean s.plan) × IsTrue (list_all (λ (b : Bool). b) end.current)

-- What a run answers at this stand: it came to its end and told that; or the first fault that came, before the end or as it told that.
abbrev pub IsAnswer : Rules → World → List Event → List Deed → Stand → Option End → Result End Fault → Type 0
IsAnswer rules w events deeds s told (Ok end) = (told ≡ Some end) × HasEndedWell rules w events deeds s end
IsAnswer rules w events deeds s None (Err f) = (s.halted ≡ Some f) ⊎ ((s.halted ≡ None) × IsTrue (may_lose f))
IsAnswer rules w events deeds s (Some end) (Err f) = IsTrue (may_lose f) × HasEndedWell rules w events deeds s end

-- The events of a run, from a world on: it opens, goes by what its first plans make of the folder, and takes its steps. At the end no child runs, unless
-- a wait failed.
pub record IsRun (rules : Rules) (told : Option End) (result : Result End Fault) (deeds : List Deed) (w : World) (es : List Event) : Type 0 where
  pub opening : List Event
  pub rest : List Event
  pub opened : Result (Unit {0}) KeepFault
  pub plan : Option Plan
  pub start : Stand
  pub last : Stand
  pub events : es ≡ opening ++ rest
  pub opens : IsOpening rules w opened opening
  pub planned : IsPlanned rules (first_stand plan) w
  pub goes_by : GoesByAnswer rules w opened (first_stand plan) w [] start
  pub steps : Steps rules w start (run w opening) opening rest deeds last
  pub waited : (last.runs ≡ []) ⊎ ((e : Event) × IsIn es e × IsTrue (is_failed_wait e.call))
  pub answer : IsAnswer rules (run w es) es deeds last told result

abbrev pub is_output : {T : Type 0} → Result T Fault → Bool
is_output (Ok t) = false
is_output (Err fault.Output) = true
is_output (Err f) = false

abbrev pub device_failed : {T : Type 0} → Result T Fault → Bool
device_failed (Ok t) = false
device_failed (Err f) = is_device f

-- What a run did: its events, the statuses that its waits told, and the lines that it put. No child runs at its end, unless a call of the device failed.
pub record HasDriven (act : Act) (rules : Rules) (result : Result End Fault) (old new : Device) (out_old out_new : Sunk) : Type 0 where
  pub deeds : List Deed
  -- what it came to tell at its end, if it did
  pub told : Option End
  -- a call of the device failed
  pub failure : Bool
  pub tells : device_failed result ≡ true → failure ≡ true
  pub quiet : is_ok result ≡ true → failure ≡ false
  pub ran : HasEnded act (IsRun rules told result deeds) old new failure
  pub given : HasGiven act old new
  -- the sink failed, be it after another fault
  pub lost : Bool
  pub loses : is_output result ≡ true → lost ≡ true
  pub whole : is_ok result ≡ true → lost ≡ false
  pub text : HasReported (IsReport rules deeds told result) out_old out_new lost
