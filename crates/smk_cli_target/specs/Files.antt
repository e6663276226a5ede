-- What a run goes by: the workflow that the files of a folder are, the paths that target words stand for, and how records read.
use Rattle.std.specs.Prelude.{◌≡◌, true, List, Option, None, Ok, Err, is_none}
use Rattle.smk_world.specs.World.{World}
use Rattle.smk_world.specs.Trees.{Path, Act}
use Rattle.smk_pattern.specs.Shapes.{Text}
use Rattle.smk_flow.specs.Flows.{Flow}
use Rattle.smk_flow.specs.Targets.{words_of, all_paths, first_bad}
use Rattle.smk_format.specs.Commands.{missing, command}
use Rattle.smk_record.specs.Reading.{record_in}
use Rattle.smk_store.specs.Images as images
use Rattle.smk_store.specs.Soundness.{Outside}
use Rattle.smk_chain.specs.Mean.{Setting, setting_of}
use Rattle.smk_pick.specs.declared.settings.Settings.{Settings}
use Rattle.smk_flaws.specs.declared.fault.LoadFault.{LoadFault}
use Rattle.smk_report.specs.declared.fault.Fault.{Fault}
use Rattle.smk_report.specs.Faults.{of_load}
use Rattle.smk_eval.specs.Faults as load
use Rattle.smk_eval.specs.Loading.{loaded, Gives}
pub use Rattle.smk_keep_forget.specs.Seen.{seen}
pub use Rattle.smk_cli_entry.specs.Names.{file_of}
use Rattle.smk_drive.specs.Moments.{Rules}
use Rattle.smk_words_reading.specs.declared.asked.RunWords.{RunWords}

-- ## Records

-- how records read, and what commands do
abbrev pub outside : Act → Outside
outside act = record { read = record_in; act = act }

-- ## The workflow

-- The files of this world are, with what the words set, this workflow.
pub record ReadsAs (w : RunWords) (entry : World) (flow : Flow) : Type 0 where
  pub file : Path
  pub is_file : file_of entry.nodes w.file ≡ Ok file
  pub gives : Gives (loaded entry.nodes file w.sets) (Ok flow)

-- There is no file, or this is the first fault of what it says.
pub data FailsToRead (w : RunWords) (entry : World) : Fault → Type 0 where
  IsNoFile : (f : Fault) → file_of entry.nodes w.file ≡ Err f → FailsToRead w entry f
  IsFaulty :
      (file : Path) (e : LoadFault) →
      file_of entry.nodes w.file ≡ Ok file →
      load.is_told e ≡ true → Gives (loaded entry.nodes file w.sets) (Err e) → FailsToRead w entry (of_load e)

-- Files are one workflow.
abbrev pub OneWorkflow : Type 0
OneWorkflow = (w : RunWords) (entry : World) (a b : Flow) → ReadsAs w entry a → ReadsAs w entry b → a ≡ b

-- And where they are one, nothing is wrong with them.
abbrev pub NoFaultyWorkflow : Type 0
NoFaultyWorkflow = (w : RunWords) (entry : World) (flow : Flow) (f : Fault) → ReadsAs w entry flow → ¬ FailsToRead w entry f

-- What is wrong with them first is one fault.
abbrev pub OneFirstFault : Type 0
OneFirstFault = (w : RunWords) (entry : World) (f g : Fault) → FailsToRead w entry f → FailsToRead w entry g → f ≡ g

-- ## What is made

abbrev pub settings_of : RunWords → List Path → Settings
settings_of w targets =
    record {
      targets = targets;
      cores = w.cores;
      bounds = w.bounds;
      keep_going = w.keep_going;
      rerun_incomplete = w.rerun_incomplete;
      force = w.force;
    }

-- what a run of these words goes by, or its listing
abbrev pub rules_of : Flow → RunWords → Rules
rules_of flow w =
    record {
      flow = flow;
      settings = settings_of w (all_paths flow (words_of flow w.targets));
      nolock = w.nolock;
      read = record_in;
      missing = missing;
      command = command;
    }

-- the first target word that stands for nothing
abbrev pub bad_target : Flow → RunWords → Option Text
bad_target flow w = first_bad flow (words_of flow w.targets)

-- The files read, each target word stands for paths, and this is what a run of the words goes by.
pub record GoesBy (w : RunWords) (entry : World) (rules : Rules) : Type 0 where
  pub flow : Flow
  pub reads : ReadsAs w entry flow
  pub targets : bad_target flow w ≡ None
  pub rules_are : rules ≡ rules_of flow w

-- what a clean run has of this world
abbrev pub setting_at : Act → Rules → World → Setting
setting_at act rules w = setting_of rules.flow act (λ j. is_none (rules.missing j)) (images.seen rules.read w)
