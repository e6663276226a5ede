-- A refusal stands: what is refused isn't run, be its jobs made one after another or be it driven.
use Rattle.std.specs.Prelude.{◌≡◌, ◌⊎◌, ℕ, Bool, true, false, List, [], ◌∷◌, Option, Some, Ok, IsSome}
use Rattle.smk_base.specs.Place.{lock_place}
use Rattle.smk_world.specs.World.{World, IsFormed, reading}
use Rattle.smk_world.specs.Devices.{Device, Sunk, HasActed, HasEnded}
use Rattle.smk_world.specs.Trees.{Act, Path}
use Rattle.smk_record.specs.Spelling.{ReadsRecords}
use Rattle.smk_record.specs.declared.record.Record.{Record}
use Rattle.smk_report.specs.declared.fault.Fault.{Fault}
use Rattle.smk_report.specs.declared.fault.Fault.TheVariants as fault
use Rattle.smk_laws_refusing.specs.Leaving.{IsUnput, LeavesAllBut}
use Rattle.smk_words_reading.specs.declared.asked.RunWords.{RunWords}
use Rattle.smk_words_reading.specs.declared.asked.Asked.TheVariants.{Run}
use Rattle.smk_cli_entry.specs.declared.asking.Asked.{Asked}
use Rattle.smk_cli_entry.specs.Entry.{IsAskedIn}
use Rattle.smk_cli_calls.specs.OneByOne.{is_one_by_one}
use Rattle.smk_cli_calls.specs.Serving.{HasOnlyLooked, IsRefusedPlan, IsWant}
use Rattle.smk_cli_calls.specs.Whole.{AsksFor, HasServed, IsAskedOneByOne, IsRefusal}

-- the same fault; of too many paths the count may be another
abbrev pub IsSameFault : Fault → Fault → Type 0
IsSameFault f g = (f ≡ g) ⊎ ((m : ℕ) × (n : ℕ) × (f ≡ fault.TooManyPaths m) × (g ≡ fault.TooManyPaths n))

-- The lock stands, and is heeded.
abbrev pub IsLockedOut : RunWords → World → Fault → Type 0
IsLockedOut words w f = (f ≡ fault.Locked) × (words.nolock ≡ false) × IsSome (reading (w.nodes lock_place))

-- the lock, where one is heeded
abbrev pub lock_of : Bool → List Path
lock_of true = []
lock_of false = lock_place ∷ []

-- what they ask of the workflow as it stands in this folder is driven
abbrev pub AskToDrive : RunWords → World → Type 0
AskToDrive words w = (asked : Asked) × AsksFor words w asked × (is_one_by_one asked.flow words ≡ false)

-- Nothing is done but looks; or no child is started, and nothing is changed but the lock, where it is heeded, and folders above it. And nothing is put.
pub data HasLeftAll (act : Act) (words : RunWords) (w : World) (old new : Device) (out_old out_new : Sunk) : Type 0 where
  OnlyLooked : (failed : Bool) → HasOnlyLooked act old new failed out_old out_new → HasLeftAll act words w old new out_old out_new
  OnlyLocked :
      (failed : Bool) →
      words.nolock ≡ false →
      HasActed act (LeavesAllBut (lock_place ∷ [])) old new failed → out_new ≡ out_old → HasLeftAll act words w old new out_old out_new
  -- and the marks and notes that stood were made firm, as they are where a run is driven
  OnlyOpened :
      (failed : Bool) →
      AskToDrive words w →
      HasEnded act (LeavesAllBut (lock_of words.nolock)) old new failed → IsUnput out_old out_new → HasLeftAll act words w old new out_old out_new

-- The call ends with a fault: of the device, of memory, for the lock, or such a one; and all is left as it stands but for the lock.
pub record HasStood (act : Act) (words : RunWords) (w : World) (Why : Fault → Type 0) (told : Option Fault) (old new : Device)
    (out_old out_new : Sunk) : Type 0 where
  pub fault : Fault
  pub told_is : told ≡ Some fault
  pub why : IsWant fault ⊎ IsLockedOut words w fault ⊎ Why fault
  pub left : HasLeftAll act words w old new out_old out_new

-- The jobs of the run are made one after another; or its folder is told at the entry, and still at the exit, as it is unless a call of the device failed.
pub data IsFollowed (read : List ℕ → Option Record) (words : RunWords) (w : World) (old new : Device) : Type 0 where
  OneByOne : IsAskedOneByOne words w → IsFollowed read words w old new
  Told : ReadsRecords read → old.world ≡ Some w → IsSome new.world → IsFollowed read words w old new

-- What a run refuses isn't run: where something is refused of what is asked, the call ends with a refusal.
abbrev pub RefusalStands : Type 0
RefusalStands =
    (act : Act) (read : List ℕ → Option Record) (words : RunWords) (f : Fault) (w : World) (told : Option Fault) (old new : Device)
    (out_old out_new : Sunk) →
    IsFormed w →
    IsRefusal read words w w f →
    IsFollowed read words w old new →
    HasServed act read (Run words) w told old new out_old out_new → HasStood act words w (IsRefusal read words w w) told old new out_old out_new

-- Where the plan for what is asked is refused, the call ends with that refusal.
abbrev pub PlanRefusalStands : Type 0
PlanRefusalStands =
    (act : Act) (read : List ℕ → Option Record) (words : RunWords) (asked : Asked) (f : Fault) (w : World) (told : Option Fault) (old new : Device)
    (out_old out_new : Sunk) →
    IsFormed w →
    IsAskedIn words w.nodes (Ok asked) →
    IsRefusedPlan read asked words w f →
    IsFollowed read words w old new →
    HasServed act read (Run words) w told old new out_old out_new → HasStood act words w (IsSameFault f) told old new out_old out_new
