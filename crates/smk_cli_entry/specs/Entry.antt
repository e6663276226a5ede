-- What words ask of a workflow of a folder.
use Rattle.std.specs.Prelude.{◌≡◌, ◌⊎◌, true, List, Option, Some, None, option_map, Result, Ok, Err}
use Rattle.smk_base.specs.declared.tree.Pair.{Pair}
use Rattle.smk_world.specs.Trees.{Path}
use Rattle.smk_pattern.specs.Shapes.{Text}
use Rattle.smk_flow.specs.Targets.{words_of, all_paths, first_bad}
use Rattle.smk_words_reading.specs.declared.asked.RunWords.{RunWords}
use Rattle.smk_eval_files.specs.Looks.{Nodes}
use Rattle.smk_flaws.specs.declared.fault.LoadFault.{LoadFault}
use Rattle.smk_eval.specs.Faults as load
use Rattle.smk_eval.specs.Loading.{loaded, Gives}
use Rattle.smk_report.specs.declared.fault.Fault.{Fault}
use Rattle.smk_report.specs.declared.fault.Fault.TheVariants.{BadTarget}
use Rattle.smk_report.specs.Faults.{of_load}
use Rattle.smk_cli_entry.specs.declared.reading.Reading.{Reading}
use Rattle.smk_cli_entry.specs.declared.asking.Asked.{Asked}
use Rattle.smk_cli_entry.specs.Faults.{is_told}
use Rattle.smk_cli_entry.specs.Names.{file_of}

-- The file's workflow, with what is set in its configuration, is refused so, as it reads in the folder.
abbrev pub IsRefusedAs : Nodes → Path → List Pair → Fault → Type 0
IsRefusedAs nodes file sets f = (e : LoadFault) × (load.is_told e ≡ true) × Gives (loaded nodes file sets) (Err e) × (f ≡ of_load e)

-- There is no file, or the workflow of the one by which the words ask is refused so.
abbrev pub FailsToRead : RunWords → Nodes → Fault → Type 0
FailsToRead words nodes f =
    (file_of nodes words.file ≡ Err f) ⊎ ((file : Path) × (file_of nodes words.file ≡ Ok file) × IsRefusedAs nodes file words.sets f)

-- The workflow by which the words ask, or why there is none; unless the device failed or memory was short.
abbrev pub IsRead : RunWords → Nodes → Result Reading Fault → Type 0
IsRead words nodes (Ok reading) = (file_of nodes words.file ≡ Ok reading.file) × Gives (loaded nodes reading.file words.sets) (Ok reading.flow)
IsRead words nodes (Err f) = is_told f ≡ true → FailsToRead words nodes f

-- the same of the workflow of one file
abbrev pub IsReadIn : Nodes → Path → List Pair → Result Reading Fault → Type 0
IsReadIn nodes file sets (Ok reading) = (reading.file ≡ file) × Gives (loaded nodes file sets) (Ok reading.flow)
IsReadIn nodes file sets (Err f) = is_told f ≡ true → IsRefusedAs nodes file sets f

-- ## What is asked

-- The answer is this refusal, or there is none; unless memory was short.
abbrev pub Refuses : {A : Type 0} → Option Fault → Result A Fault → Type 0
Refuses refusal (Ok a) = refusal ≡ None
Refuses refusal (Err f) = is_told f ≡ true → refusal ≡ Some f

-- the target words that count
abbrev pub asked_words : List Text → Reading → List Text
asked_words targets reading = words_of reading.flow targets

-- why nothing is to be made by a workflow that was read: a word is no target
abbrev pub refused_word : List Text → Reading → Option Fault
refused_word targets reading = option_map BadTarget (first_bad reading.flow (asked_words targets reading))

abbrev pub reading_of : Asked → Reading
reading_of asked = record { file = asked.file; flow = asked.flow }

-- What target words ask of a workflow that was read.
abbrev pub Asks : List Text → Reading → Result Asked Fault → Type 0
Asks targets reading (Ok asked) = (reading_of asked ≡ reading) × (refused_word targets reading ≡ None) × (asked.targets ≡ all_paths reading.flow (asked_words targets reading))
Asks targets reading (Err f) = is_told f ≡ true → refused_word targets reading ≡ Some f

-- All refusals before anything else is looked at: those of reading, and then those of what is read.
abbrev pub FailsToAsk : RunWords → Nodes → Fault → Type 0
FailsToAsk words nodes f = FailsToRead words nodes f ⊎ ((reading : Reading) × IsRead words nodes (Ok reading) × (refused_word words.targets reading ≡ Some f))

-- What the words ask of the workflow by which they ask, or why they ask for nothing; unless the device failed or memory was short.
abbrev pub IsAskedIn : RunWords → Nodes → Result Asked Fault → Type 0
IsAskedIn words nodes (Ok asked) =
    IsRead words nodes (Ok (reading_of asked))
    × (refused_word words.targets (reading_of asked) ≡ None)
    × (asked.targets ≡ all_paths asked.flow (asked_words words.targets (reading_of asked)))
IsAskedIn words nodes (Err f) = is_told f ≡ true → FailsToAsk words nodes f
