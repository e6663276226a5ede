-- What a run leaves that ends with status 0.
use Rattle.std.specs.Prelude.{◌≡◌, Option, Some, None, Ok, is_none}
use Rattle.smk_world.specs.World.{World}
use Rattle.smk_world.specs.Devices.{Device, Sunk}
use Rattle.smk_world.specs.Trees.{Each}
use Rattle.smk_record.specs.Spelling.{ReadsRecords}
use Rattle.smk_store.specs.Images.{seen}
use Rattle.smk_store.specs.Soundness.{Outside, SoundWorld, SameSources}
use Rattle.smk_store.specs.Trust.{Versions, SumsDiffer}
use Rattle.smk_flow.specs.Flows.{Flow}
use Rattle.smk_format.specs.Commands as format
use Rattle.smk_chain.specs.Mean.{Setting, setting_of}
use Rattle.smk_laws_plan.specs.Current.{IsClean}
use Rattle.smk_report.specs.declared.fault.Fault.{Fault}
use Rattle.smk_words_reading.specs.declared.asked.RunWords.{RunWords}
use Rattle.smk_words_reading.specs.declared.asked.Asked.TheVariants.{Run}
use Rattle.smk_cli_entry.specs.declared.asking.Asked.{Asked}
use Rattle.smk_cli_entry.specs.Entry.{IsAskedIn}
use Rattle.smk_cli_calls.specs.Whole.{HasServed}

-- what a clean run has of this flow, from the sources that stand in the folder
abbrev pub setting_in : Outside → World → Flow → Setting
setting_in o w flow = setting_of flow o.act (λ j. is_none (format.missing j)) (seen o.read w)

-- These words ask of the workflow of the folder for targets; at the end each of them is what a clean run from the sources of the entry makes of it; and the sources are as
-- they were.
pub record HasMadeClean (o : Outside) (words : RunWords) (w v : World) : Type 0 where
  pub asked : Asked
  pub is_asked : IsAskedIn words w.nodes (Ok asked)
  pub targets : Each (IsClean (setting_in o w asked.flow) (seen o.read v)) asked.targets
  pub sources : SameSources (seen o.read w) (seen o.read v)

-- A run that ends without a fault, in a sound folder, whatever the workflow has; be its jobs made one after another or driven.
abbrev pub CallIsClean : Type 0
CallIsClean =
    (o : Outside) (H : Versions) (words : RunWords) (told : Option Fault) (w v : World) (old new : Device) (out_old out_new : Sunk) →
    old.world ≡ Some w →
    new.world ≡ Some v →
    ReadsRecords o.read →
    SumsDiffer H →
    SoundWorld o w H →
    HasServed o.act o.read (Run words) w told old new out_old out_new → told ≡ None → HasMadeClean o words w v
