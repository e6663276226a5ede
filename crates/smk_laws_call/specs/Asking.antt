-- What words ask for in a folder with the same sources: what they asked for before.
use Rattle.std.specs.Prelude.{◌≡◌, ℕ, true, List, Option, Some, None, Ok}
use Rattle.smk_world.specs.World.{World}
use Rattle.smk_world.specs.Devices.{Device, Sunk}
use Rattle.smk_world.specs.Trees.{Path, Act, Each}
use Rattle.smk_record.specs.declared.record.Record.{Record}
use Rattle.smk_record.specs.Reading.{record_in}
use Rattle.smk_record.specs.Spelling.{ReadsRecords}
use Rattle.smk_store.specs.Images.{is_source, seen}
use Rattle.smk_store.specs.Trust.{Versions, SumsDiffer}
use Rattle.smk_store.specs.Soundness.{Outside, SameSources, SoundWorld}
use Rattle.smk_pick.specs.declared.settings.Force.TheVariants.{No}
use Rattle.smk_report.specs.declared.fault.Fault.{Fault}
use Rattle.smk_words_reading.specs.declared.asked.Asked.TheVariants.{Run}
use Rattle.smk_words_reading.specs.declared.asked.RunWords.{RunWords}
use Rattle.smk_laws_complete.specs.Loaded.{files_read}
use Rattle.smk_cli_entry.specs.declared.asking.Asked.{Asked}
use Rattle.smk_cli_entry.specs.Entry.{IsAskedIn}
use Rattle.smk_cli_entry.specs.Names.{file_of, workflow_file}
use Rattle.smk_laws_keys.specs.Keys.{outside}
use Rattle.smk_cli_calls.specs.Whole.{HasServed}
use Rattle.smk_clean.specs.Again.{StartsNothing}
use Rattle.smk_laws_call.specs.Headline.{Came, IsCalled, SumsDifferIn}

-- each file that is read for the workflow by which the words ask is a source
abbrev pub ReadsSources : (List ℕ → Option Record) → RunWords → World → Type 0
ReadsSources read words w =
    (file : Path) → file_of w.nodes words.file ≡ Ok file → Each (λ p. is_source (seen read w) p ≡ true) (files_read w.nodes file)

-- Where the words name no file, the same one counts: none has come at a name that counts before its own.
abbrev pub FindsSame : RunWords → World → World → Type 0
FindsSame words w v = words.file ≡ None → workflow_file v.nodes ≡ workflow_file w.nodes

-- Words ask for the same in two worlds that have the same sources, and read sources there too. What they read has to be sources, since all else may differ; and
-- the same file has to count, since one may have come, which is no source of the first world, at a name that counts before.
abbrev pub AskedBySources : Type 0
AskedBySources =
    (read : List ℕ → Option Record) (words : RunWords) (w v : World) (asked : Asked) →
    SameSources (seen read w) (seen read v) →
    ReadsSources read words w →
    FindsSame words w v → IsAskedIn words w.nodes (Ok asked) → IsAskedIn words v.nodes (Ok asked) × ReadsSources read words v

-- So they do after a run that ended without a fault, from a sound folder, since it leaves the sources as they are; it is asked what that law asks
-- (`CallIsClean`), and that its outputs and logs have not made another file count.
abbrev pub RunKeepsAsked : Type 0
RunKeepsAsked =
    (o : Outside) (H : Versions) (words : RunWords) (told : Option Fault) (w v : World) (old new : Device) (out_old out_new : Sunk) →
    old.world ≡ Some w →
    new.world ≡ Some v →
    ReadsRecords o.read →
    SumsDiffer H →
    SoundWorld o w H →
    HasServed o.act o.read (Run words) w told old new out_old out_new →
    told ≡ None →
    ReadsSources o.read words w →
    FindsSame words w v → (asked : Asked) → IsAskedIn words w.nodes (Ok asked) → IsAskedIn words v.nodes (Ok asked)

-- And so a run with the same words starts nothing, whatever has come before, after a run that forced no job and ended with status 0, if the words read sources
-- and the same file counts.
abbrev pub NextRunStartsNothing : Type 0
NextRunStartsNothing =
    (act : Act) (w v x : World) (H : Versions) (words : RunWords) (told again : Option Fault) →
    (came : Came act w H) →
    SumsDifferIn act w H came →
    IsCalled (outside act) (Run words) told w v →
    words.force ≡ No →
    told ≡ None →
    ReadsSources record_in words w →
    FindsSame words w v → (next : IsCalled (outside act) (Run words) again v x) → StartsNothing next.served.serves
