-- What a call may tell where each target has a clean value.
use Rattle.std.specs.Prelude.{◌≡◌, ℕ, Bool, true, false, List, Option, Some, None, Ok, IsSome}
use Rattle.smk_base.specs.Place.{lock_place}
use Rattle.smk_world.specs.World.{World, reading}
use Rattle.smk_world.specs.Calls.{Rose}
use Rattle.smk_world.specs.Devices.{Device, Sunk}
use Rattle.smk_world.specs.Trees.{Act}
use Rattle.smk_record.specs.declared.record.Record.{Record}
use Rattle.smk_record.specs.Spelling.{ReadsRecords}
use Rattle.smk_store.specs.Images.{seen}
use Rattle.smk_store.specs.Trust.{Versions, SumsDiffer}
use Rattle.smk_store.specs.Soundness.{SoundWorld}
use Rattle.smk_plan.specs.States.{nothing_done}
use Rattle.smk_report.specs.declared.fault.Fault.{Fault}
use Rattle.smk_report.specs.declared.fault.Fault.TheVariants as fault
use Rattle.smk_words_reading.specs.declared.asked.RunWords.{RunWords}
use Rattle.smk_words_reading.specs.declared.asked.Asked.TheVariants.{Run, Preview}
use Rattle.smk_cli_entry.specs.declared.asking.Asked.{Asked}
use Rattle.smk_cli_entry.specs.Entry.{FailsToAsk, IsAskedIn}
use Rattle.smk_plan_preview.specs.Previewing.{rules_for}
use Rattle.smk_cli_calls.specs.OneByOne.{grows}
use Rattle.smk_cli_calls.specs.Serving.{settings_of}
use Rattle.smk_cli_calls.specs.Whole.{HasServed}
use Rattle.smk_laws_complete.specs.Derived.{AllHaveValues}
use Rattle.smk_laws_complete.specs.Planned.{MayStop}
use Rattle.smk_laws_driven.specs.Grown.{GrowsToClash}
use Rattle.smk_laws_driven.specs.Completing.{MayBreakOff}
use Rattle.smk_laws_call.specs.Complete.{setting_in}

-- The world is sound, no two different contents of its versions have the same SHA-256, the words ask for something, by files that read, and each target that
-- they ask for has a clean value.
pub record IsCleanCall (act : Act) (read : List ℕ → Option Record) (words : RunWords) (w : World) (H : Versions) : Type 0 where
  pub differ : SumsDiffer H
  pub sound : SoundWorld (record { read = read; act = act }) w H
  pub unrefused : (f : Fault) → FailsToAsk words w.nodes f → ⊥
  pub values : (asked : Asked) → IsAskedIn words w.nodes (Ok asked) → AllHaveValues (setting_in act read asked w) asked.targets

-- What is told then: that all is well; that the call broke off, for want of memory, of the device, of the sink, of a serial, or with a record that is too
-- long; that its plan was refused for how the folder stands or for what clashes; that a run's plan grew to a clash; or that the lock stands.
pub data MayTell (act : Act) (read : List ℕ → Option Record) (run : Bool) (words : RunWords) (w : World) : Option Fault → Type 0 where
  AllIsWell : MayTell act read run words w None
  BrokenOff : (f : Fault) → MayBreakOff f → MayTell act read run words w (Some f)
  PlanRefused :
      (asked : Asked) (f : Fault) →
      IsAskedIn words w.nodes (Ok asked) →
      MayStop (rules_for read asked.flow (settings_of asked words)) (seen read w) nothing_done f → MayTell act read run words w (Some f)
  -- a plan of a run may grow, and grows to a clash
  GrewToClash :
      (asked : Asked) (f : Fault) →
      run ≡ true →
      IsAskedIn words w.nodes (Ok asked) →
      grows asked.flow.rules ≡ true →
      GrowsToClash act (rules_for read asked.flow (settings_of asked words)) (seen read w) f → MayTell act read run words w (Some f)
  -- the lock stands, and a run heeds it
  LockedOut : run ≡ true → words.nolock ≡ false → IsSome (reading (w.nodes lock_place)) → MayTell act read run words w (Some fault.Locked)

-- A call for a run tells nothing else, of any workflow, be its jobs made one after another or driven, and be outputs temporary or not, where the world is told
-- at its end and no count of faults of the device rose.
abbrev pub CallIsComplete : Type 0
CallIsComplete =
    (act : Act) (read : List ℕ → Option Record) (words : RunWords) (w v : World) (H : Versions) (told : Option Fault)
    (old new : Device) (out_old out_new : Sunk) →
    old.world ≡ Some w →
    new.world ≡ Some v →
    ReadsRecords read →
    IsCleanCall act read words w H →
    (Rose old.faults new.faults → ⊥) →
    HasServed act read (Run words) w told old new out_old out_new → MayTell act read true words w told

-- Nor does a call for a listing.
abbrev pub ListingIsComplete : Type 0
ListingIsComplete =
    (act : Act) (read : List ℕ → Option Record) (words : RunWords) (w : World) (H : Versions) (told : Option Fault)
    (old new : Device) (out_old out_new : Sunk) →
    IsCleanCall act read words w H →
    HasServed act read (Preview words) w told old new out_old out_new → MayTell act read false words w told
