-- What a run leaves of the lock.
use Rattle.std.specs.Prelude.{◌≡◌, ℕ, false, List, Option, Some}
use Rattle.smk_base.specs.Place.{lock_place}
use Rattle.smk_world.specs.World.{World, reading}
use Rattle.smk_world.specs.Calls.{Rose}
use Rattle.smk_world.specs.Devices.{Device, Sunk}
use Rattle.smk_world.specs.Trees.{Act}
use Rattle.smk_record.specs.declared.record.Record.{Record}
use Rattle.smk_report.specs.declared.fault.Fault.{Fault}
use Rattle.smk_words_reading.specs.declared.asked.RunWords.{RunWords}
use Rattle.smk_words_reading.specs.declared.asked.Asked.TheVariants.{Run}
use Rattle.smk_cli_calls.specs.Whole.{HasServed}

-- A run that heeds the lock leaves it as it was, whatever is asked and however it ends, unless the count of the device's faults rose.
abbrev pub LockIsLeft : Type 0
LockIsLeft =
    (act : Act) (read : List ℕ → Option Record) (words : RunWords) (w v : World) (told : Option Fault) (old new : Device) (out_old out_new : Sunk) →
    old.world ≡ Some w →
    new.world ≡ Some v →
    words.nolock ≡ false →
    ¬ (Rose old.faults new.faults) → HasServed act read (Run words) w told old new out_old out_new → reading (v.nodes lock_place) ≡ reading (w.nodes lock_place)
