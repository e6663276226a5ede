-- What a run leaves to be done that forces no job and ends with status 0: nothing.
use Rattle.std.specs.Prelude.{◌≡◌, ℕ, true, List, [], map, Option, Some, None, Result, Ok, IsSome}
use Rattle.smk_world.specs.World.{World}
use Rattle.smk_world.specs.Devices.{Device, Sunk}
use Rattle.smk_world.specs.Runs.{Did}
use Rattle.smk_world.specs.Trees.{Path, Act, Each}
use Rattle.smk_flow.specs.Flows.{Flow}
use Rattle.smk_record.specs.declared.record.Record.{Record}
use Rattle.smk_record.specs.Spelling.{ReadsRecords}
use Rattle.smk_store.specs.declared.fault.StoreFault.{StoreFault}
use Rattle.smk_store.specs.Images.{seen}
use Rattle.smk_store.specs.Soundness.{Outside, SoundWorld}
use Rattle.smk_store.specs.Stores.{Known}
use Rattle.smk_store.specs.Trust.{Versions, SumsDiffer}
use Rattle.smk_chain.specs.declared.jobs.Jobs.{Jobs}
use Rattle.smk_trigger.specs.declared.reason.State.{State}
use Rattle.smk_trigger.specs.declared.reason.State.TheVariants.{Clean}
use Rattle.smk_pick.specs.declared.settings.Force.TheVariants.{No}
use Rattle.smk_plan.specs.States.{Plan, LastPlan, is_current}
use Rattle.smk_report.specs.declared.fault.Fault.{Fault}
use Rattle.smk_run.specs.Turns.{Turn}
use Rattle.smk_drive.specs.Moments.{Rules}
use Rattle.smk_drive_first.specs.Opening.{AreRules}
use Rattle.smk_clean.specs.NothingStarts.{StartsNone}
use Rattle.smk_words_reading.specs.declared.asked.RunWords.{RunWords}
use Rattle.smk_words_reading.specs.declared.asked.Asked.TheVariants.{Run}
use Rattle.smk_cli_entry.specs.declared.asking.Asked.{Asked}
use Rattle.smk_cli_entry.specs.Entry.{IsAskedIn}
use Rattle.smk_make.specs.Making.{GoesOn, NotFirm, NoMemory, Made}
use Rattle.smk_plan_preview.specs.declared.previewing.Previewed.{Previewed}
use Rattle.smk_cli_calls.specs.Serving.{Went, Refused, Stopped, Worked, Drove, settings_of}
use Rattle.smk_cli_calls.specs.Locking.{HasHeeded, Unmade, Stood, Untaken, Taken}
use Rattle.smk_cli_calls.specs.Whole.{AsksFor, HasRun, Unheeded, Unasked, Heeded, HasServed}
use Rattle.smk_safe.specs.Exit.{begun_so}

-- ## The plan of the exit

-- These words ask of the workflow of the folder for targets; and the last plan for that, of the folder at the end, has each job Clean and each target current,
-- whichever jobs have begun.
pub record HasNoneLeft (o : Outside) (words : RunWords) (w v : World) : Type 0 where
  pub asked : Asked
  pub is_asked : IsAskedIn words w.nodes (Ok asked)
  pub plan : Plan
  pub last : (begun : List Path) → LastPlan asked.flow (seen o.read v) (settings_of asked words) (begun_so begun) [] plan
  pub clean : plan.states ≡ map (λ j. Clean) plan.jobs
  pub current :
      (begun : List Path) →
      Each (λ p. is_current (seen o.read v) (settings_of asked words) (begun_so begun) plan p ≡ true) asked.targets

-- A run that forces no job and ends without a fault, in a sound folder, whatever the workflow has.
abbrev pub CallLeavesNone : Type 0
CallLeavesNone =
    (o : Outside) (H : Versions) (words : RunWords) (told : Option Fault) (w v : World) (old new : Device) (out_old out_new : Sunk) →
    old.world ≡ Some w →
    new.world ≡ Some v →
    ReadsRecords o.read →
    SumsDiffer H →
    SoundWorld o w H → words.force ≡ No → HasServed o.act o.read (Run words) w told old new out_old out_new → told ≡ None → HasNoneLeft o words w v

-- ## A run again

-- the turns that were taken once all was firm
abbrev pub turns_made :
    {act : Act} {flow : Flow} {cores : ℕ} {targets : List Path} {jobs : Jobs} {states : List State} {stored : List Known} {result : Result (Unit {0}) Fault}
    {old new : Device} {out_old out_new : Sunk} {settled : Result (Unit {0}) StoreFault} →
    GoesOn act flow cores targets jobs states stored result old new out_old out_new settled → List Turn
turns_made (NotFirm f is same unput) = []
turns_made (NoMemory u is same unput) = []
turns_made (Made u duties for meant made) = made.turns

-- The turns of a run once it is known what is asked, and of a whole one. A run that is driven goes by no turns.
abbrev pub turns_went :
    {act : Act} {words : RunWords} {result : Result (Unit {0}) Fault} {refuses : Fault → Type 0} {asks : Asked → Type 0}
    {plans : Asked → Previewed → Type 0} {old new : Device} {out_old out_new : Sunk} →
    Went act words result refuses asks plans old new out_old out_new → List Turn
turns_went (Refused f is why looked) = []
turns_went (Stopped f is want looked) = []
turns_went (Worked asked told one plans worked) = turns_made worked.carried.goes_on
turns_went (Drove asked apart is drove) = []

abbrev pub turns_heeded :
    {act : Act} {words : RunWords} {answer : Result (Unit {0}) Fault} {refuses : World → Fault → Type 0} {asks : Asked → Type 0}
    {plans : World → Asked → Previewed → Type 0} {w : World} {old new : Device} {out_old out_new : Sunk} →
    HasHeeded act words answer refuses asks plans w old new out_old out_new → List Turn
turns_heeded (Unmade is same unput) = []
turns_heeded (Stood is stands tried unput) = []
turns_heeded (Untaken e is tried unput) = []
turns_heeded (Taken v locked once at taken ran) = turns_went ran.went

abbrev pub turns_ran :
    {act : Act} {read : List ℕ → Option Record} {words : RunWords} {w : World} {answer : Result (Unit {0}) Fault} {old new : Device} {out_old out_new : Sunk} →
    HasRun act read words w answer old new out_old out_new → List Turn
turns_ran (Unheeded free went) = turns_went went
turns_ran (Unasked f heeds is why looked) = []
turns_ran (Heeded v looked heeds after at looking heeded) = turns_heeded heeded

-- What was driven tells of no job, by whichever rules it is told that read the records so, where the folder is told at the end, as it is unless a call of
-- the device failed: once it is known what is asked, and as a whole run. Any other run goes by turns.
abbrev pub untold_went :
    {act : Act} {words : RunWords} {result : Result (Unit {0}) Fault} {refuses : Fault → Type 0} {asks : Asked → Type 0}
    {plans : Asked → Previewed → Type 0} {old new : Device} {out_old out_new : Sunk} →
    (List ℕ → Option Record) → Went act words result refuses asks plans old new out_old out_new → Type 0
untold_went read (Refused f is why looked) = Unit {0}
untold_went read (Stopped f is want looked) = Unit {0}
untold_went read (Worked asked told one plans worked) = Unit {0}
untold_went {words = words} {new = new} read (Drove asked apart is drove) =
    (rules : Rules) (are : AreRules asked.flow (settings_of asked words) rules) → rules.read ≡ read → IsSome new.world → (drove.drove rules are).deeds ≡ []

abbrev pub untold_heeded :
    {act : Act} {words : RunWords} {answer : Result (Unit {0}) Fault} {refuses : World → Fault → Type 0} {asks : Asked → Type 0}
    {plans : World → Asked → Previewed → Type 0} {w : World} {old new : Device} {out_old out_new : Sunk} →
    (List ℕ → Option Record) → HasHeeded act words answer refuses asks plans w old new out_old out_new → Type 0
untold_heeded read (Unmade is same unput) = Unit {0}
untold_heeded read (Stood is stands tried unput) = Unit {0}
untold_heeded read (Untaken e is tried unput) = Unit {0}
untold_heeded read (Taken v locked once at taken ran) = untold_went read ran.went

abbrev pub untold_ran :
    {act : Act} {read : List ℕ → Option Record} {words : RunWords} {w : World} {answer : Result (Unit {0}) Fault} {old new : Device} {out_old out_new : Sunk} →
    HasRun act read words w answer old new out_old out_new → Type 0
untold_ran {read = read} (Unheeded free went) = untold_went read went
untold_ran (Unasked f heeds is why looked) = Unit {0}
untold_ran {read = read} (Heeded v looked heeds after at looking heeded) = untold_heeded read heeded

-- A run starts nothing, whatever kind it is: where the folder is told at its end, its events start no child; it takes no turn; and it tells of no job.
pub record StartsNothing
    {act : Act} {read : List ℕ → Option Record} {words : RunWords} {w : World} {answer : Result (Unit {0}) Fault} {old new : Device} {out_old out_new : Sunk}
    (ran : HasRun act read words w answer old new out_old out_new) : Type 0 where
  pub no_child : Did act old.world new.world StartsNone
  pub no_turn : turns_ran ran ≡ []
  pub no_job : untold_ran ran

-- After a run that forced no job and ended without a fault, in a sound folder, whatever the workflow has, a run with the same words starts nothing: in the
-- folder that the first one left, where they ask for the same of the workflow in it.
abbrev pub NextCallStartsNothing : Type 0
NextCallStartsNothing =
    (o : Outside) (H : Versions) (words : RunWords) (told again : Option Fault) (w v : World) (old new next_old next_new : Device)
    (out_old out_new next_out_old next_out_new : Sunk) →
    old.world ≡ Some w →
    new.world ≡ Some v →
    next_old.world ≡ Some v →
    ReadsRecords o.read →
    SumsDiffer H →
    SoundWorld o w H →
    words.force ≡ No →
    HasServed o.act o.read (Run words) w told old new out_old out_new →
    told ≡ None →
    ((asked : Asked) → AsksFor words w asked → AsksFor words v asked) →
    (next : HasServed o.act o.read (Run words) v again next_old next_new next_out_old next_out_new) → StartsNothing next.serves
