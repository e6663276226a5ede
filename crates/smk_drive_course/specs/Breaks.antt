-- The steps that break off, and the steps of a run, one after another.
use Rattle.std.specs.Prelude.{◌≡◌, ◌≢◌, ◌⊎◌, ℕ, true, false, List, [], ◌∷◌, ◌++◌, None, Err, IsTrue}
use Rattle.smk_world.specs.declared.event.Call.TheVariants.{Waited}
use Rattle.smk_world.specs.declared.event.Change.{Change}
use Rattle.smk_world.specs.declared.event.Ended.{Ended}
use Rattle.smk_world.specs.declared.event.Event.{Event}
use Rattle.smk_world.specs.declared.event.Failed.{Failed}
use Rattle.smk_world.specs.World.{World, after, run}
use Rattle.smk_world.specs.Calls.{failed}
use Rattle.smk_world.specs.Devices.{AreLooks}
use Rattle.smk_world.specs.Requests.{IsCutShort, request}
use Rattle.smk_world.specs.Requests.Request.{Remove, Settle}
use Rattle.smk_world.specs.Trees.{Path}
use Rattle.smk_flow.specs.declared.job.Job.{Job}
use Rattle.smk_record.specs.declared.record.Stamp.{Stamp}
use Rattle.smk_trigger.specs.declared.reason.State.{State}
use Rattle.smk_report.specs.declared.fault.Fault.TheVariants as fault
use Rattle.smk_job.specs.Jobs.{Underway, abandon_requests}
use Rattle.smk_job.specs.Sights.{HasFinished}
use Rattle.smk_job.specs.declared.fault.CloseFault.TheVariants as close
use Rattle.smk_run.specs.Closings.{wait_event}
use Rattle.smk_drive.specs.Moments.{Rules, is_spent_now, seen}
use Rattle.smk_drive_course.specs.Stands.{Stand, IsClear, NoneLeft, broken_by_device, halted_by, moment_of, without_child}
use Rattle.smk_drive_course.specs.Steps.{AreRemoved, Deed, HasBegun, HasClosed, HasHalted, HasSpent, IsAsListed, IsNext, IsToBegin, IsWaitFor, MaySpend, calls_of}

module _ (rules : Rules) (entry : World) where
  -- ## Steps that break off

  -- A child was waited for, and there was no memory for what is under a directory output of its job, whose marks stay.
  pub record HasLeft (s : Stand) (w : World) (before es : List Event) (deeds : List Deed) (t : Stand) : Type 0 where
    pub going : Underway
    pub ended : Ended
    pub left : List Change
    pub looks : List Event
    pub unbroken : s.broken ≡ false
    pub waited : IsWaitFor going ended s
    pub none_left : s.halted ≡ None → NoneLeft rules s w before
    pub good : ended.status ≡ 0
    pub events : es ≡ wait_event ended left ∷ looks
    pub unclosed : HasFinished going (Err close.OutOfMemory) (after w (wait_event ended left)) looks
    pub deeds_are : deeds ≡ []
    pub leaves : t ≡ halted_by fault.OutOfMemory (without_child (seen rules (after w (wait_event ended left))) going ended.status s)

  -- A child was waited for, and a call failed as its job was closed.
  pub record HasBrokenOff (s : Stand) (w : World) (before es : List Event) (deeds : List Deed) (t : Stand) : Type 0 where
    pub going : Underway
    pub ended : Ended
    pub left : List Change
    pub rest : List Event
    pub unbroken : s.broken ≡ false
    pub waited : IsWaitFor going ended s
    pub none_left : s.halted ≡ None → NoneLeft rules s w before
    pub events : es ≡ wait_event ended left ∷ rest
    pub unclosed :
        ((ended.status ≡ 0) × HasFinished going (Err close.Device) (after w (wait_event ended left)) rest)
        ⊎ ((ended.status ≢ 0) × IsCutShort (abandon_requests going) rest)
    pub deeds_are : deeds ≡ []
    pub leaves : t ≡ broken_by_device (without_child (seen rules (after w (wait_event ended left))) going ended.status s)

  -- A call failed as sources among the inputs of the job that is next were read.
  pub record HasNotRead (s : Stand) (w : World) (before es : List Event) (deeds : List Deed) (t : Stand) : Type 0 where
    pub job : Job × State
    pub next : IsNext rules s w before job
    pub reads : AreLooks true es
    pub deeds_are : deeds ≡ []
    pub leaves : t ≡ broken_by_device s

  -- A call failed as the job that is next was to begin, once these had been read.
  pub record HasNotBegun (s : Stand) (w : World) (before es : List Event) (deeds : List Deed) (t : Stand) : Type 0 where
    pub job : Job × State
    pub made : ℕ
    pub stamps : List Stamp
    pub reads : List Event
    pub beginning : List Event
    pub to_begin : IsToBegin rules entry s w before job made stamps
    pub events : es ≡ reads ++ beginning
    pub only_read : AreLooks false reads
    pub calls : IsCutShort (calls_of rules job.0) beginning
    pub deeds_are : deeds ≡ []
    pub leaves : t ≡ broken_by_device s

  -- A call failed as spent outputs were removed: the removal of one that is spent, or that which makes removals firm.
  pub record HasNotSpent (s : Stand) (w : World) (before es : List Event) (deeds : List Deed) (t : Stand) : Type 0 where
    pub paths : List Path
    pub removing : List Event
    pub failing : Event
    pub last : Stand
    pub late : MaySpend rules s w before
    pub removed : AreRemoved rules s w before paths removing last
    pub events : es ≡ removing ++ failing ∷ []
    pub fails : failed failing.call ≡ true
    pub called :
        ((p : Path) × (request failing.call ≡ Remove p) × IsClear rules last (run w removing) (before ++ removing)
        × IsTrue (is_spent_now rules (moment_of last (run w removing) (before ++ removing)) p)
        × IsAsListed (seen rules (run w removing)) p)
        ⊎ ((request failing.call ≡ Settle paths) × (paths ≢ []))
    pub deeds_are : deeds ≡ []
    pub leaves : t ≡ broken_by_device last

  -- After a call of the device has failed children are waited for, and nothing else is done.
  pub record HasWaited (s : Stand) (w : World) (before es : List Event) (deeds : List Deed) (t : Stand) : Type 0 where
    pub going : Underway
    pub ended : Ended
    pub left : List Change
    pub broken : s.broken ≡ true
    pub waited : IsWaitFor going ended s
    pub events : es ≡ wait_event ended left ∷ []
    pub deeds_are : deeds ≡ []
    pub leaves : t ≡ without_child (seen rules (after w (wait_event ended left))) going ended.status s

  -- A wait failed: children are left behind.
  pub record HasFailedToWait (s : Stand) (w : World) (before es : List Event) (deeds : List Deed) (t : Stand) : Type 0 where
    pub e : Failed
    pub ran : s.runs ≢ []
    pub none_left : s.halted ≡ None → NoneLeft rules s w before
    pub events : es ≡ record { call = Waited (Err e); left = [] } ∷ []
    pub deeds_are : deeds ≡ []
    pub leaves : t ≡ broken_by_device s

  -- ## One step after another

  pub data Step (s : Stand) (w : World) (before es : List Event) (deeds : List Deed) (t : Stand) : Type 0 where
    Begins : HasBegun rules entry s w before es deeds t → Step s w before es deeds t
    Closes : HasClosed rules entry s w before es deeds t → Step s w before es deeds t
    Spends : HasSpent rules entry s w before es deeds t → Step s w before es deeds t
    Halts : HasHalted rules entry s w before es deeds t → Step s w before es deeds t
    Leaves : HasLeft s w before es deeds t → Step s w before es deeds t
    BreaksOff : HasBrokenOff s w before es deeds t → Step s w before es deeds t
    ReadsNot : HasNotRead s w before es deeds t → Step s w before es deeds t
    BeginsNot : HasNotBegun s w before es deeds t → Step s w before es deeds t
    SpendsNot : HasNotSpent s w before es deeds t → Step s w before es deeds t
    Waits : HasWaited s w before es deeds t → Step s w before es deeds t
    FailsToWait : HasFailedToWait s w before es deeds t → Step s w before es deeds t

  -- The steps from one stand to another, the events that they made of a world, and what is told of them.
  pub data Steps : Stand → World → List Event → List Event → List Deed → Stand → Type 0 where
    Done : (s : Stand) (w : World) (before : List Event) → Steps s w before [] [] s
    Then :
        (s t u : Stand) (w : World) (before es fs : List Event) (deeds more : List Deed) →
        Step s w before es deeds t → Steps t (run w es) (before ++ es) fs more u → Steps s w before (es ++ fs) (deeds ++ more) u
