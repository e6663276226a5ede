-- The clauses of the call's contract, each by a name.
use Rattle.std.specs.Prelude.{◌≡◌, ◌⊎◌, ◌≤◌, ℕ, Bool, true, false, List, [], ◌∷◌, ◌++◌, map, Option, Some, None, IsTrue, IsSome, ◌==◌}
use Rattle.smk_base.specs.Place.{lock_place, record_place, mark_place, note_place}
use Rattle.smk_base.specs.Path.{own_folder}
use Rattle.smk_world.specs.declared.event.Event.{Event}
use Rattle.smk_world.specs.World.{World, run, reading, is_within}
use Rattle.smk_world.specs.Calls.{Rose, HasCause}
use Rattle.smk_world.specs.Devices.{Device, Sunk}
use Rattle.smk_world.specs.Trees.{Path, Act, Each}
use Rattle.smk_pattern.specs.Shapes.{Text}
use Rattle.smk_store.specs.Images.{is_known}
use Rattle.smk_store.specs.Safety.{KeepsSound}
use Rattle.smk_laws_history.specs.Histories.{KeepsListed}
use Rattle.smk_plan.specs.States.{Plan, LastPlan, nothing_done}
use Rattle.smk_report.specs.declared.fault.Fault.{Fault}
use Rattle.smk_report.specs.declared.fault.Fault.TheVariants as fault
use Rattle.smk_report.specs.Faults.{fault_text, fault_status}
use Rattle.smk_report.specs.Lines.{unlocked_line}
use Rattle.smk_drive.specs.Moments.{Rules}
use Rattle.smk_drive.specs.Refusals.{ClashingChainRefuses}
use Rattle.smk_drive.specs.Reports.{listing_text}
use Rattle.smk_drive_course.specs.Lawful.{Lawful}
use Rattle.smk_drive_course.specs.Keeping.{KeepsOutputs, has_start}
use Rattle.smk_drive_course.specs.Refusals.{BeginsUnrefused, IsSameFault, ClashingRunRefuses}
use Rattle.smk_drive_course.specs.RunReports.{IsPrefix, IsFront, HasStarts, HasLinesBefore}
use Rattle.smk_words_reading.specs.declared.asked.Asked.TheVariants.{Run, Preview, Unlock, Forget, Generate}
use Rattle.smk_cli_target.specs.declared.ending.Outcome.{Outcome}
use Rattle.smk_words_reading.specs.declared.asked.RunWords.{RunWords}
use Rattle.smk_words_reading.specs.Asks.{IsAsked}
pub use Rattle.smk_keep_lock.specs.Changing.{ChangesOnly}
pub use Rattle.smk_keep_lock.specs.Putting.{IsWholeFor}
pub use Rattle.smk_keep_forget.specs.Seen.{forgotten_lines}
use Rattle.smk_cli_target.specs.Files.{GoesBy, outside, seen}
use Rattle.smk_cli_target.specs.Ends.{IsGoodEntry, Put, AsRun, AsListing, AreQuiet, HasFailedCall, IsSame, Stays, EndsWell, CurrentIsClean, HasCleanTargets, HasOnlyFolderMarks, FailedSo, HasOwnStatus}
use Rattle.smk_cli_target.specs.Generating.{generated_lines}
use Rattle.smk_cli_target.specs.Refusing.{RefusesAtOnce, Refuses, is_met_at_once, is_let_in, forgettable, IsNamed, IsNamedInListing, IsNamedInForgetting, none_named}

-- ## Counts

-- the count didn't rise
abbrev pub IsSteady : ℕ → ℕ → Type 0
IsSteady old new = ¬ Rose old new

-- neither the device's nor the sink's
abbrev pub AreSteady : Device → Device → Sunk → Sunk → Type 0
AreSteady old new out_old out_new = IsSteady old.faults new.faults × IsSteady out_old.faults out_new.faults

abbrev pub is_fault : ℕ → Option Fault → Bool
is_fault status None = false
is_fault status (Some f) = fault_status f == status

-- What is left of the device and of `out`.
pub record Leaves (outcome : Outcome) (old new : Device) (out_old out_new : Sunk) : Type 0 where
  -- no child runs at the end, unless a call of the device failed
  pub children : (new.running ≡ []) ⊎ Rose old.faults new.faults
  -- a fault of the device or of `out` has its cause, and with status 0 or 1 no put failed
  pub device : HasCause old.faults new.faults (is_fault 4 outcome.fault)
  pub output : HasCause out_old.faults out_new.faults (is_fault 6 outcome.fault)
  pub quiet : outcome.status ≤ 1 → out_new.faults ≡ out_old.faults
  -- what is told stays told, unless a count rose
  pub world_stays : (IsSome old.world → IsSome new.world) ⊎ Rose old.faults new.faults
  pub out_stays : (IsSome out_old.put → IsSome out_new.put) ⊎ Rose out_old.faults out_new.faults

-- ## What stays

-- nothing is done: it is refused at once, or a listing or `--generate` is asked
pub data DoesNothing (words : List Text) (entry : World) : Type 0 where
  IsRefusedAtOnce : (f : Fault) → RefusesAtOnce words entry f → DoesNothing words entry
  Lists : (w : RunWords) → IsAsked words (Preview w) → DoesNothing words entry
  Generates : (seed size : ℕ) → IsAsked words (Generate seed size) → DoesNothing words entry

abbrev pub IsRefusal : ℕ → Type 0
IsRefusal status = (status ≡ 2) ⊎ (status ≡ 3)

-- without a start nothing outside the engine's own folder has changed
abbrev pub OutsideStays : World → List Event → Type 0
OutsideStays entry log =
    has_start log ≡ false → (q : Path) → is_within q (own_folder ∷ []) ≡ false → Stays (entry.nodes q) ((run entry log).nodes q)

-- ## A run

-- What the log of a run is: lawful; no job begins at or after a refusal; and outputs are kept and taken away as they should.
pub record RunsWell (rules : Rules) (entry : World) (log : List Event) (status : ℕ) : Type 0 where
  pub lawful : Lawful rules entry log status
  pub unrefused : BeginsUnrefused rules entry log
  pub keeps : KeepsOutputs rules entry log status

-- Any status but 0 and 1 leaves a front of the report, in which what is called current is clean; with status 3 it has each start, with
-- status 4 all lines before the failure.
pub record EndsEarly (act : Act) (rules : Rules) (entry : World) (log : List Event) (status : ℕ) (text : Text) : Type 0 where
  pub front : IsFront rules entry log text
  pub clean : CurrentIsClean act rules (run entry log) text
  pub starts : status ≡ 3 → HasStarts rules entry log text
  pub lines : status ≡ 4 → HasLinesBefore rules entry log text

-- ## A listing

-- this is the plan of the entry
abbrev pub IsPlanOf : Rules → World → Plan → Type 0
IsPlanOf rules entry plan = LastPlan rules.flow (seen entry) rules.settings nothing_done [] plan

-- the text is the listing of the plan of the entry, or a front of it
abbrev pub IsListing : Rules → World → (Text → Text → Type 0) → Text → Type 0
IsListing rules entry Stands text = (plan : Plan) × IsPlanOf rules entry plan × Stands text (listing_text rules.flow plan)

-- Status 0 of a listing has put all of it; want of memory or a sink's fault leaves a front; any other status nothing.
abbrev pub HasListed : Rules → World → ℕ → Text → Type 0
HasListed rules entry status text =
    (status ≡ 0 → IsListing rules entry (λ t whole. t ≡ whole) text)
    × ((status ≡ 5) ⊎ (status ≡ 6) → (text ≡ []) ⊎ IsListing rules entry IsPrefix text)
    × ((status ≡ 1) ⊎ IsRefusal status ⊎ (status ≡ 4) → text ≡ [])

-- ## Crashes

-- these are the paths that the words ask to forget: none, where they ask for something else
pub data AreToForget (words : List Text) : List Path → Type 0 where
  TheirPaths : (paths : List Path) (nolock : Bool) → IsAsked words (Forget paths nolock) → AreToForget words paths
  NoPath : ((paths : List Path) (nolock : Bool) → ¬ IsAsked words (Forget paths nolock)) → AreToForget words []

-- From a good entry, what the call keeps of soundness and of listed directories; to its end, but for a `--cleanup-metadata` in which the
-- device failed.
abbrev pub KeepsGood : Act → List Text → Device → Device → World → List Event → Type 0
KeepsGood act words old new entry log =
    IsGoodEntry act entry →
    (paths : List Path) (to_the_end : Bool) →
    AreToForget words paths →
    (to_the_end ≡ true → (paths ≡ []) ⊎ IsSteady old.faults new.faults) →
    KeepsSound (outside act) entry log paths to_the_end × KeepsListed (outside act) entry log to_the_end

-- ## Refusals and faults

-- the fault is this refusal, or want of memory
abbrev pub TellsRefusal : Outcome → Fault → Type 0
TellsRefusal outcome f = ((g : Fault) × (outcome.fault ≡ Some g) × IsSameFault f g) ⊎ (outcome.fault ≡ Some fault.OutOfMemory)

-- A fault of status 2 or 3 is the first refusal that the call meets; and where it meets one and no count rose, that is the fault, or
-- want of memory. What is met at once needs no good entry.
pub record IsRefused (act : Act) (words : List Text) (outcome : Outcome) (old new : Device) (out_old out_new : Sunk) (entry : World) (log : List Event) : Type 0 where
  pub only_at_once : (f : Fault) → outcome.fault ≡ Some f → IsTrue (is_met_at_once f) → RefusesAtOnce words entry f
  pub only : IsGoodEntry act entry → (f : Fault) → outcome.fault ≡ Some f → IsRefusal outcome.status → Refuses words entry log f
  pub always_at_once : AreSteady old new out_old out_new → (f : Fault) → RefusesAtOnce words entry f → TellsRefusal outcome f
  pub always : IsGoodEntry act entry → AreSteady old new out_old out_new → (f : Fault) → Refuses words entry log f → TellsRefusal outcome f

-- a status that isn't the command's own comes only where the count rose
abbrev pub OwnStatus : Act → Device → Device → World → List Event → Fault → Type 0
OwnStatus act old new entry log (fault.JobFailed rule path code) = HasOwnStatus act entry log path code ⊎ Rose old.faults new.faults
OwnStatus act old new entry log f = Unit {0}

-- the fault of a failed job comes in a run alone; it is how its child ended
abbrev pub IsJobFault : Act → List Text → Device → Device → World → List Event → Fault → Type 0
IsJobFault act words old new entry log f =
    (w : RunWords) × (rules : Rules) × IsAsked words (Run w) × GoesBy w entry rules
    × (IsGoodEntry act entry → FailedSo rules entry log f × OwnStatus act old new entry log f)

abbrev pub HasJobFault : Act → List Text → Outcome → Device → Device → World → List Event → Type 0
HasJobFault act words outcome old new entry log =
    (f : Fault) → outcome.fault ≡ Some f → outcome.status ≡ 1 → IsJobFault act words old new entry log f

-- ## Completeness

-- done, or want of memory, or a refusal that is named
abbrev pub IsDoneUnless : (Fault → Type 0) → Outcome → Type 0
IsDoneUnless Named outcome = (outcome.status ≡ 0) ⊎ (outcome.status ≡ 5) ⊎ ((f : Fault) × (outcome.fault ≡ Some f) × Named f)

-- What is done where no count rose. A run or a listing, from a good entry, where a clean run gives each target: unless a refusal stands
-- that is named, or that of a derivation whose own jobs clash.
pub record IsComplete (act : Act) (words : List Text) (outcome : Outcome) (entry : World) (log : List Event) : Type 0 where
  pub of_run :
      IsGoodEntry act entry →
      AsRun words entry (λ rules. HasCleanTargets act rules entry → IsDoneUnless (λ f. IsNamed f ⊎ ClashingRunRefuses rules entry log f) outcome)
  pub of_listing :
      IsGoodEntry act entry →
      AsListing words entry (λ rules.
      HasCleanTargets act rules entry → IsDoneUnless (λ f. IsNamedInListing f ⊎ ClashingChainRefuses rules (seen entry) nothing_done [] f) outcome)
  pub of_unlock : IsAsked words Unlock → IsDoneUnless none_named outcome
  pub of_forgetting : (paths : List Path) (nolock : Bool) → IsAsked words (Forget paths nolock) → IsDoneUnless IsNamedInForgetting outcome

-- ## The other commands

-- the lock, and what is known of some paths
abbrev pub own_places : List Path → List Path
own_places paths = lock_place ∷ (map record_place paths ++ (map mark_place paths ++ map note_place paths))

-- nothing is known of the paths
abbrev pub AreForgotten : List Path → World → Type 0
AreForgotten paths w = Each (λ p. is_known (seen w) p ≡ false) paths

-- `--unlock` changes nothing but the lock, and with status 0 there is none.
pub record HasUnlocked (status : ℕ) (entry exit : World) : Type 0 where
  pub only : ChangesOnly (lock_place ∷ []) [] entry exit
  pub unlocked : status ≡ 0 → reading (exit.nodes lock_place) ≡ None

-- `--cleanup-metadata` changes nothing but what is known of its paths, and the lock with its folders. With status 0 nothing is known of
-- them and the lock is as it was; where it is refused, the paths before the refused one are forgotten.
pub record HasForgotten (paths : List Path) (nolock : Bool) (status : ℕ) (entry exit : World) : Type 0 where
  pub only : ChangesOnly (own_places paths) (lock_place ∷ []) entry exit
  pub all : status ≡ 0 → AreForgotten paths exit
  pub lock : status ≡ 0 → reading (exit.nodes lock_place) ≡ reading (entry.nodes lock_place)
  pub front : status ≡ 3 → IsTrue (is_let_in nolock entry) → AreForgotten (forgettable (seen entry) paths) exit

-- `--generate` makes no call of the device, and is done unless a put failed or memory is wanting.
pub record HasGenerated (outcome : Outcome) (out_old out_new : Sunk) (log : List Event) : Type 0 where
  pub untouched : log ≡ []
  pub done : IsSteady out_old.faults out_new.faults → IsDoneUnless none_named outcome

-- ## Leftovers

-- the call takes the lock
pub data TakesLock (words : List Text) : Type 0 where
  Runs : (w : RunWords) → IsAsked words (Run w) → TakesLock words
  Forgets : (paths : List Path) (nolock : Bool) → IsAsked words (Forget paths nolock) → TakesLock words

-- Status 3, 5 or 6, where no event was answered Failed, leaves the lock as it was, and no mark of the call's own but those of jobs with a
-- directory output.
pub record LeavesLittle (act : Act) (words : List Text) (status : ℕ) (entry : World) (log : List Event) : Type 0 where
  pub lock :
      IsGoodEntry act entry →
      AreQuiet log →
      (status ≡ 3) ⊎ (status ≡ 5) ⊎ (status ≡ 6) →
      TakesLock words → reading ((run entry log).nodes lock_place) ≡ reading (entry.nodes lock_place)
  pub marks :
      IsGoodEntry act entry →
      AreQuiet log → (status ≡ 3) ⊎ (status ≡ 5) ⊎ (status ≡ 6) → AsRun words entry (λ rules. HasOnlyFolderMarks rules entry log)

-- ## All of them

module _ (act : Act) (words : List Text) (outcome : Outcome) where
  -- What the events of the call are, which lead from its entry to its exit.
  pub record HasLog (old new : Device) (out_old out_new : Sunk) (entry : World) (log : List Event) : Type 0 where
    -- with status 0 or 1 no call of the device failed; a fault of the device is that of a call
    pub quiet : outcome.status ≤ 1 → AreQuiet log
    pub device : outcome.fault ≡ Some fault.Device → HasFailedCall log
    -- what is refused at once, and a listing, leaves the world as it was; a refusal without a start all outside `.snakemake`
    pub unchanged : DoesNothing words entry → IsSame entry (run entry log)
    pub outside : IsRefusal outcome.status → OutsideStays entry log
    -- the log of a run is what it should be, whatever comes
    pub of_run : IsGoodEntry act entry → AsRun words entry (λ rules. RunsWell rules entry log outcome.status)
    -- after every prefix of the log a crash leaves something sound in which directories are listed, and so is the world at the end
    pub crashes : KeepsGood act words old new entry log
    pub refusal : IsRefused act words outcome old new out_old out_new entry log
    pub job_fault : HasJobFault act words outcome old new entry log
    -- the other commands
    pub unlock : IsAsked words Unlock → HasUnlocked outcome.status entry (run entry log)
    pub forgetting : (paths : List Path) (nolock : Bool) → IsAsked words (Forget paths nolock) → HasForgotten paths nolock outcome.status entry (run entry log)
    pub generating : (seed size : ℕ) → IsAsked words (Generate seed size) → HasGenerated outcome out_old out_new log
    -- what a refusal, want of memory or a sink's fault leaves
    pub leftovers : LeavesLittle act words outcome.status entry log
    -- what a clean run gives is made, unless a named refusal stands
    pub complete : AreSteady old new out_old out_new → IsComplete act words outcome entry log

  -- The text that was put on `out`, by the entry and the log.
  pub record HasText (entry : World) (log : List Event) (text : Text) : Type 0 where
    -- what is refused at once has put nothing
    pub nothing : (f : Fault) → RefusesAtOnce words entry f → text ≡ []
    -- a run: with status 0 or 1 the whole report, else a front of it
    pub of_run : IsGoodEntry act entry → outcome.status ≤ 1 → AsRun words entry (λ rules. EndsWell act rules entry log outcome.status text)
    pub early : IsGoodEntry act entry → 2 ≤ outcome.status → AsRun words entry (λ rules. EndsEarly act rules entry log outcome.status text)
    pub listing : AsListing words entry (λ rules. HasListed rules entry outcome.status text)
    -- the other commands
    pub unlock : IsAsked words Unlock → IsWholeFor outcome.status unlocked_line text
    pub forgetting :
        (paths : List Path) (nolock : Bool) →
        IsAsked words (Forget paths nolock) → IsWholeFor outcome.status (forgotten_lines (seen entry) [] paths) text
    pub generating : (seed size : ℕ) → IsAsked words (Generate seed size) → IsWholeFor outcome.status (generated_lines seed size) text

-- ## `err`

-- the line of the fault: whole, unless the sink failed or memory is wanting
abbrev pub IsFaultLine : Option Fault → Sunk → Sunk → Text → Type 0
IsFaultLine None old new text = text ≡ []
IsFaultLine (Some f) old new text =
    IsPrefix text (fault_text f) × ((text ≡ fault_text f) ⊎ Rose old.faults new.faults ⊎ (f ≡ fault.OutOfMemory))

-- What is told on `err`: this line and nothing else; and what is told there stays told, unless the sink failed.
pub record HasTold (told : Option Fault) (old new : Sunk) : Type 0 where
  pub line : Put old new (IsFaultLine told old new)
  pub stays : (IsSome old.put → IsSome new.put) ⊎ Rose old.faults new.faults
