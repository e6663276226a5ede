-- The steps of a run, from one stand to the next.
use Rattle.std.specs.Prelude.{◌≡◌, ◌≢◌, ◌⊎◌, ◌<◌, ◌^◌, ℕ, true, false, List, [], ◌∷◌, ◌++◌, map, Some, None, Result, Ok, Err, IsTrue}
use Rattle.smk_world.specs.declared.event.Change.{Change}
use Rattle.smk_world.specs.declared.event.Ended.{Ended}
use Rattle.smk_world.specs.declared.event.Event.{Event}
use Rattle.smk_world.specs.World.{World, after, run}
use Rattle.smk_world.specs.Calls.{started_numbers}
use Rattle.smk_world.specs.Devices.{AreLooks}
use Rattle.smk_world.specs.Requests.{Request, HasDone, IsCutShort}
use Rattle.smk_world.specs.Requests.Request.{Remove, Settle}
use Rattle.smk_world.specs.Trees.{Path, IsIn, Each, is_path_text}
use Rattle.smk_flow.specs.declared.job.Job.{Job}
use Rattle.smk_record.specs.declared.record.Member.{Member}
use Rattle.smk_record.specs.declared.record.Stamp.{Stamp}
use Rattle.smk_record.specs.Records.{members_of}
use Rattle.smk_store.specs.Images.{Image, members_under, record_at}
use Rattle.smk_trigger.specs.declared.reason.State.{State}
use Rattle.smk_pick.specs.Rooms.{threads_in}
use Rattle.smk_report.specs.Lines.{Ending}
use Rattle.smk_report.specs.declared.fault.Fault.{Fault}
use Rattle.smk_report.specs.declared.fault.Fault.TheVariants as fault
use Rattle.smk_job.specs.Jobs.{Underway, underway, begin_requests, too_long}
use Rattle.smk_keep.specs.Keeping.{protect_requests}
use Rattle.smk_keep.specs.declared.fault.KeepFault.{KeepFault}
use Rattle.smk_keep.specs.declared.fault.KeepFault.TheVariants.{Device, OutOfMemory}
use Rattle.smk_run.specs.declared.ending.Ending.{Ending as End}
use Rattle.smk_run.specs.declared.ending.Ending.TheVariants.{Good, Status, NoOutput, WrongKind, BadMember}
use Rattle.smk_run.specs.Closings.{wait_event, IsClosedBy}
use Rattle.smk_run.specs.Runs.{AreWritable}
use Rattle.smk_drive.specs.Moments.{Rules, Begun, begun_of, ending, is_spent_now, seen}
use Rattle.smk_drive.specs.Lawful.{first_of, goes_on}
use Rattle.smk_drive_course.specs.Lawful.{may_start}
use Rattle.smk_drive_course.specs.Stands.{Stand, GoesBy, IsClear, IsReplanned, NoneLeft, Refuses, broken_by_device, halted_by, moment_of, with_job, without_child}

-- What a run has done that its report tells: a job was started; one was closed, and ended so.
pub data Deed : Type 0 where
  Started : Job → Deed
  Closed : Job → Ending → Deed

-- ## Parts of steps

-- The child of this job was waited for, with this event.
pub record IsWaitFor (going : Underway) (ended : Ended) (s : Stand) : Type 0 where
  pub ran : IsIn s.runs going
  pub number : ended.number ≡ going.number

-- the outputs of a job that ended so that are to be made read-only
abbrev pub guards_of : Job → End → List Path
guards_of j Good = j.guards
guards_of j (Status n) = []
guards_of j (NoOutput p) = []
guards_of j (WrongKind p) = []
guards_of j (BadMember p) = []

-- these outputs were made read-only; where there are none nothing was done
abbrev pub HasGuarded : List Path → List Event → Type 0
HasGuarded [] es = es ≡ []
HasGuarded (p ∷ guards) es = HasDone (protect_requests (p ∷ guards)) es

-- Once a job is closed its outputs are made read-only, for which memory may be wanting, and then the folder is looked at; or a call fails in this.
pub data IsTended (guards : List Path) : Result (Unit {0}) KeepFault → List Event → Type 0 where
  Tended : (guarding looks : List Event) → HasGuarded guards guarding → AreLooks false looks → IsTended guards (Ok tt) (guarding ++ looks)
  Unguarded : IsTended guards (Err OutOfMemory) []
  GuardingFails : (guarding : List Event) → IsCutShort (protect_requests guards) guarding → IsTended guards (Err Device) guarding
  LooksFail : (guarding looks : List Event) → HasGuarded guards guarding → AreLooks true looks → IsTended guards (Err Device) (guarding ++ looks)

-- all that is under the path is listed in its record
abbrev pub IsAsListed : Image → Path → Type 0
IsAsListed image p = (m : Member) → IsIn (members_under image p) m → IsIn (members_of (record_at image p)) m

module _ (rules : Rules) where
  -- the calls with which a job begins
  abbrev pub calls_of : Job → List Request
  calls_of j = begin_requests j.recipe j.logs (rules.command j (threads_in rules.settings.cores j.threads))

  -- The job that is next, at a stand where no plan is refused.
  pub record IsNext (s : Stand) (w : World) (before : List Event) (e : Job × State) : Type 0 where
    pub clear : IsClear rules s w before
    pub first : first_of (may_start rules (moment_of s w before)) ≡ Some e
    pub going_on : IsTrue (goes_on rules (moment_of s w before))

  -- outputs may be spent now: once a job has begun, or where none is to start
  abbrev pub MaySpend : Stand → World → List Event → Type 0
  MaySpend s w before = (s.begun ≢ []) ⊎ (may_start rules (moment_of s w before) ≡ [])

  -- Outputs are removed, each while it is spent by the plan in force, and nothing is under it but what its record lists. The plan is made anew after each, and
  -- none is refused meanwhile.
  pub data AreRemoved : Stand → World → List Event → List Path → List Event → Stand → Type 0 where
    NoMore : (s : Stand) (w : World) (before : List Event) → AreRemoved s w before [] [] s
    OneMore :
        (s t u : Stand) (w : World) (before : List Event) (p : Path) (paths : List Path) (e : Event) (es : List Event) →
        IsClear rules s w before →
        IsTrue (is_spent_now rules (moment_of s w before) p) →
        IsAsListed (seen rules w) p →
        HasDone (Remove p ∷ []) (e ∷ []) →
        IsReplanned rules s (after w e) t →
        AreRemoved t (after w e) (before ++ e ∷ []) paths es u → AreRemoved s w before (p ∷ paths) (e ∷ es) u

module _ (rules : Rules) (entry : World) where
  -- The run goes by a stand that has come about, unless a call failed or memory was wanting right afterwards.
  abbrev pub GoesByAnswer : Result (Unit {0}) KeepFault → Stand → World → List Event → Stand → Type 0
  GoesByAnswer (Ok u) s w events t = GoesBy rules entry s w events t
  GoesByAnswer (Err OutOfMemory) s w events t = t ≡ halted_by fault.OutOfMemory s
  GoesByAnswer (Err Device) s w events t = t ≡ broken_by_device s

  -- It is to begin; its logs are paths; its records are to have this serial, which has 64 bits, and the stamps that its inputs have now, sources with their
  -- SHA-256, and can be written.
  pub record IsToBegin (s : Stand) (w : World) (before : List Event) (e : Job × State) (made : ℕ) (stamps : List Stamp) : Type 0 where
    pub next : IsNext rules s w before e
    pub logged : Each (λ p. IsTrue (is_path_text p)) e.0.logs
    pub serial : made ≡ (begun_of rules entry (moment_of s w before) e).serial
    pub stamped : map Some stamps ≡ (begun_of rules entry (moment_of s w before) e).stamps
    pub fits : made < 2 ^ 64
    pub writable : AreWritable made e.0.recipe stamps
    pub short : too_long made e.0.recipe stamps ≡ None

  -- ## Steps

  -- A job begins, once the sources among its inputs have been read, and its child runs.
  pub record HasBegun (s : Stand) (w : World) (before es : List Event) (deeds : List Deed) (t : Stand) : Type 0 where
    pub job : Job × State
    pub going : Underway
    pub reads : List Event
    pub beginning : List Event
    pub next : Stand
    pub is : going ≡ underway job.0.recipe job.0.logs going.stamps going.made going.number
    pub to_begin : IsToBegin s w before job going.made going.stamps
    pub events : es ≡ reads ++ beginning
    pub only_read : AreLooks false reads
    pub calls : HasDone (calls_of rules job.0) beginning
    pub started : started_numbers beginning ≡ going.number ∷ []
    pub deeds_are : deeds ≡ Started job.0 ∷ []
    pub replanned : IsReplanned rules (with_job (begun_of rules entry (moment_of s w before) job) going s) (run w es) next
    pub goes_by : GoesBy rules entry next (run w es) (before ++ es) t

  -- A child was waited for, and its job closed so. Nothing was left that might have begun, unless no job begins any more.
  pub record HasClosed (s : Stand) (w : World) (before es : List Event) (deeds : List Deed) (t : Stand) : Type 0 where
    pub going : Underway
    pub begun : Begun
    pub ended : Ended
    pub left : List Change
    pub closing : List Event
    pub tending : List Event
    pub how : End
    pub answer : Result (Unit {0}) KeepFault
    pub next : Stand
    pub unbroken : s.broken ≡ false
    pub waited : IsWaitFor going ended s
    pub is_job : IsIn s.begun begun × (begun.job.recipe ≡ going.recipe)
    pub none_left : s.halted ≡ None → NoneLeft rules s w before
    pub events : es ≡ (wait_event ended left ∷ closing) ++ tending
    pub closed : IsClosedBy going how ended.status (after w (wait_event ended left)) closing
    pub tended : IsTended (guards_of begun.job how) answer tending
    pub deeds_are : deeds ≡ Closed begun.job (ending (seen rules (after w (wait_event ended left))) begun.job ended.status) ∷ []
    pub replanned :
        IsReplanned rules (without_child (seen rules (after w (wait_event ended left))) going ended.status s) (run w (wait_event ended left ∷ closing)) next
    pub goes_by : GoesByAnswer answer next (run w (wait_event ended left ∷ closing)) (before ++ wait_event ended left ∷ closing) t

  -- Outputs that are spent were removed for good.
  pub record HasSpent (s : Stand) (w : World) (before es : List Event) (deeds : List Deed) (t : Stand) : Type 0 where
    pub paths : List Path
    pub removing : List Event
    pub settling : List Event
    pub last : Stand
    pub some : paths ≢ []
    pub late : MaySpend rules s w before
    pub removed : AreRemoved rules s w before paths removing last
    pub settled : HasDone (Settle paths ∷ []) settling
    pub events : es ≡ removing ++ settling
    pub deeds_are : deeds ≡ []
    pub goes_by : GoesBy rules entry last (run w removing) (before ++ removing) t

  -- No job begins any more: the job that is next is refused, or the sink failed, or memory is wanting. Sources may have been read for it, unless a call has
  -- failed.
  pub record HasHalted (s : Stand) (w : World) (before es : List Event) (deeds : List Deed) (t : Stand) : Type 0 where
    pub why : Fault
    pub cause : ((s.halted ≡ None) × Refuses rules entry s w before why) ⊎ ((why ≡ fault.Output) ⊎ (why ≡ fault.OutOfMemory))
    pub only_read : AreLooks false es
    pub quiet : s.broken ≡ true → es ≡ []
    pub deeds_are : deeds ≡ []
    pub leaves : t ≡ halted_by why s
