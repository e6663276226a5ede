-- What the whole call does for what the words ask.
use Rattle.std.specs.Prelude.{◌≡◌, ◌⊎◌, ℕ, true, false, List, Option, Some, Result, Ok, Err}
use Rattle.smk_world.specs.World.{World}
use Rattle.smk_world.specs.Devices.{Device, Sunk, HasLooked}
use Rattle.smk_world.specs.Trees.{Act}
use Rattle.smk_record.specs.declared.record.Record.{Record}
use Rattle.smk_report.specs.declared.fault.Fault.{Fault}
use Rattle.smk_words_reading.specs.declared.asked.Asked.{Asked as Request}
use Rattle.smk_words_reading.specs.declared.asked.Asked.TheVariants.{Run, Preview, Unlock, Forget, Generate}
use Rattle.smk_words_reading.specs.declared.asked.RunWords.{RunWords}
use Rattle.smk_cli_entry.specs.declared.asking.Asked.{Asked}
use Rattle.smk_cli_entry.specs.Entry.{IsAskedIn, FailsToAsk}
use Rattle.smk_cli_entry.specs.Faults.{device_failed, is_device}
use Rattle.smk_plan_preview.specs.declared.previewing.Previewed.{Previewed}
use Rattle.smk_cli_calls.specs.OneByOne.{IsPlainFlow, is_one_by_one}
use Rattle.smk_cli_calls.specs.Serving.{IsRefusedPlan, IsPlanFor, IsWant, HasListed, HasOnlyLooked, Went}
use Rattle.smk_cli_calls.specs.Ends.{fault_of}
use Rattle.smk_cli_calls.specs.Lines.{IsOutcome}
use Rattle.smk_cli_calls.specs.Locking.{IsAfterLooks, HasHeeded}
use Rattle.smk_cli_calls.specs.Words.{is_built}

module _ (read : List ℕ → Option Record) (words : RunWords) (entry w : World) where
  -- The first refusal of a run or a listing: of reading the workflow as it stands at the entry, of a word that is no target, or of the plan for what is asked,
  -- in the folder as it stands then.
  pub data IsRefusal (f : Fault) : Type 0 where
    OfWorkflow : FailsToAsk words entry.nodes f → IsRefusal f
    OfPlan : (asked : Asked) → IsAskedIn words entry.nodes (Ok asked) → IsRefusedPlan read asked words w f → IsRefusal f

  -- Nothing is refused: this is asked of the workflow, and this is the plan for it.
  pub record IsToServe (asked : Asked) (told : Previewed) : Type 0 where
    pub is_asked : IsAskedIn words entry.nodes (Ok asked)
    pub plan : IsPlanFor read asked words w told

-- this is what the words ask of the workflow as it stands in this folder
abbrev pub AsksFor : RunWords → World → Asked → Type 0
AsksFor words entry asked = IsAskedIn words entry.nodes (Ok asked)

-- what they ask of it, if anything, is made one job after another
abbrev pub IsAskedOneByOne : RunWords → World → Type 0
IsAskedOneByOne words entry = (asked : Asked) → AsksFor words entry asked → is_one_by_one asked.flow words ≡ true

-- the workflow of which they ask something, if anything, is one by which no plan may grow
abbrev pub IsAskedPlainly : RunWords → World → Type 0
IsAskedPlainly words entry = (asked : Asked) → AsksFor words entry asked → IsPlainFlow asked.flow

-- How a run is served from this folder: under the lock, which is tried once it is known what is asked, unless none is heeded.
pub data HasRun
    (act : Act) (read : List ℕ → Option Record) (words : RunWords) (w : World) (answer : Result (Unit {0}) Fault) (old new : Device) (out_old out_new : Sunk) :
    Type 0 where
  Unheeded :
      words.nolock ≡ true →
      Went act words answer (IsRefusal read words w w) (AsksFor words w) (IsToServe read words w w) old new out_old out_new →
      HasRun act read words w answer old new out_old out_new
  -- the workflow or a target is refused; or a call of the device failed, or memory was wanting, before that was known
  Unasked :
      (f : Fault) →
      words.nolock ≡ false →
      answer ≡ Err f →
      IsWant f ⊎ FailsToAsk words w.nodes f →
      HasOnlyLooked act old new (is_device f) out_old out_new → HasRun act read words w answer old new out_old out_new
  Heeded :
      (v : World) (looked : Device) →
      words.nolock ≡ false →
      IsAfterLooks act w v →
      looked.world ≡ Some v →
      HasLooked act old looked false →
      HasHeeded act words answer (IsRefusal read words w) (AsksFor words w) (IsToServe read words w) v looked new out_old out_new →
      HasRun act read words w answer old new out_old out_new

-- What is done for a request that is about what is made: a run, or a listing that leaves all as it stands and heeds no lock.
abbrev pub Serves : Act → (List ℕ → Option Record) → World → Result (Unit {0}) Fault → Device → Device → Sunk → Sunk → Request → Type 0
Serves act read w answer old new out_old out_new (Run words) = HasRun act read words w answer old new out_old out_new
Serves act read w answer old new out_old out_new (Preview words) =
    HasLooked act old new (device_failed answer)
    × HasListed (IsRefusal read words w w) (IsToServe read words w w) out_old out_new answer
Serves act read w answer old new out_old out_new Unlock = ⊥
Serves act read w answer old new out_old out_new (Forget paths nolock) = ⊥
Serves act read w answer old new out_old out_new (Generate seed size) = ⊥

-- What the call did for this request, and its fault: that of the answer, or want of memory in place of it.
pub record HasServed (act : Act) (read : List ℕ → Option Record) (request : Request) (w : World) (told : Option Fault) (old new : Device) (out_old out_new : Sunk) : Type 0 where
  pub built : is_built request ≡ true
  pub answer : Result (Unit {0}) Fault
  pub told_is : IsOutcome (fault_of answer) told
  pub serves : Serves act read w answer old new out_old out_new request
