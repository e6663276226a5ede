-- How a job begins, once the sources among its inputs have been read.
use Rattle.std.specs.Prelude.{◌≡◌, ◌⊎◌, ℕ, true, false, List, [], ◌∷◌, ◌++◌, Some, None, Result, Ok, Err}
use Rattle.smk_world.specs.declared.event.Event.{Event}
use Rattle.smk_world.specs.declared.event.WorkFault.{WorkFault}
use Rattle.smk_world.specs.declared.event.WorkFault.TheVariants as work
use Rattle.smk_world.specs.World.{World, in_paths}
use Rattle.smk_world.specs.Calls.{started_numbers}
use Rattle.smk_world.specs.Devices.{AreLooks}
use Rattle.smk_world.specs.Requests.{HasDone, IsCutShort}
use Rattle.smk_record.specs.declared.record.Stamp.{Stamp}
use Rattle.smk_flow.specs.declared.job.Job.{Job}
use Rattle.smk_job.specs.declared.fault.BeginFault.{BeginFault}
use Rattle.smk_job.specs.declared.fault.BeginFault.TheVariants.{TooLong, Device, OutOfMemory}
use Rattle.smk_job.specs.Jobs.{Underway, underway, begin_requests, too_long}
use Rattle.smk_run.specs.Runs.{AreWritable}
use Rattle.smk_drive_step.specs.Stamping.{AreDigested}

-- why sources weren't read, as why the job doesn't begin
abbrev pub unread : WorkFault → BeginFault
unread work.Failed = Device
unread work.OutOfMemory = OutOfMemory

module _ (j : Job) (known : List Stamp) (made : ℕ) where
  -- Sources were read, by which the inputs have these stamps, and the records with them can be written.
  pub record HasRead (stamps : List Stamp) (w : World) (es : List Event) : Type 0 where
    pub only_read : AreLooks false es
    pub stamped : AreDigested w (in_paths j.recipe) known stamps
    pub writable : AreWritable made j.recipe stamps

  -- Sources were read, and then the job began: all its calls were made, and the last one started a child.
  pub record HasReadAndBegun (command : List ℕ) (going : Underway) (w : World) (es : List Event) : Type 0 where
    pub reads : List Event
    pub beginning : List Event
    pub events : es ≡ reads ++ beginning
    pub read : HasRead going.stamps w reads
    pub is : going ≡ underway j.recipe j.logs going.stamps made going.number
    pub short : too_long made j.recipe going.stamps ≡ None
    pub calls : HasDone (begin_requests j.recipe j.logs command) beginning
    pub started : started_numbers beginning ≡ going.number ∷ []

  -- Sources were read, and then a call failed with which the job was to begin.
  pub record IsCutOff (command : List ℕ) (w : World) (es : List Event) : Type 0 where
    pub stamps : List Stamp
    pub reads : List Event
    pub beginning : List Event
    pub events : es ≡ reads ++ beginning
    pub read : HasRead stamps w reads
    pub short : too_long made j.recipe stamps ≡ None
    pub calls : IsCutShort (begin_requests j.recipe j.logs command) beginning

  -- Sources were read, and a record would have so many bytes.
  pub record IsTooLong (bytes : ℕ) (w : World) (es : List Event) : Type 0 where
    pub stamps : List Stamp
    pub read : HasRead stamps w es
    pub long : too_long made j.recipe stamps ≡ Some bytes

  -- What was done by this answer. A call of the device may have failed as sources were read, or as the job was to begin; where there is no memory,
  -- at most sources were read.
  abbrev pub HasTakenUp : List ℕ → Result Underway BeginFault → World → List Event → Type 0
  HasTakenUp command (Ok going) w es = HasReadAndBegun command going w es
  HasTakenUp command (Err (TooLong bytes)) w es = IsTooLong bytes w es
  HasTakenUp command (Err Device) w es = AreLooks true es ⊎ IsCutOff command w es
  HasTakenUp command (Err OutOfMemory) w es = AreLooks false es
