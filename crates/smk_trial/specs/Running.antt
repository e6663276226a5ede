-- One run.
use Rattle.std.specs.Prelude.{◌≡◌, ℕ, ◌+◌, false, List, [], ◌∷◌, codes, length, Option, Some, None}
use Rattle.smk_world.specs.World.{World}
use Rattle.smk_world.specs.Calls.{started_numbers}
use Rattle.smk_world.specs.Devices.{Device, Sunk}
use Rattle.smk_world_mem.specs.Act.{mem_act}
use Rattle.smk_record.specs.declared.record.Record.{Record}
use Rattle.smk_record.specs.Spelling.{ReadsRecords}
use Rattle.smk_pick.specs.declared.settings.Force.TheVariants.{No}
use Rattle.smk_words_reading.specs.declared.asked.RunWords.{RunWords}
use Rattle.smk_words_reading.specs.declared.asked.Asked.TheVariants.{Run}
use Rattle.smk_cli_calls.specs.Whole.{HasServed}
use Rattle.smk_gen.specs.Files.{Text}

-- the words of each run
abbrev pub run_words : List Text
run_words = codes "--cores" ∷ codes "8" ∷ []

-- what they ask: that the default target is made, on eight cores
abbrev pub asked_run : RunWords
asked_run = record {
  targets = [];
  cores = 8;
  file = None;
  sets = [];
  bounds = [];
  nolock = false;
  keep_going = false;
  rerun_incomplete = false;
  force = No;
}

-- A run from the one world to the other, which ended without a fault.
pub record Ran (w v : World) : Type 0 where
  pub old : Device
  pub new : Device
  pub out_old : Sunk
  pub out_new : Sunk
  pub begins : old.world ≡ Some w
  pub ends : new.world ≡ Some v
  pub served : (read : List ℕ → Option Record) → ReadsRecords read → HasServed mem_act read (Run asked_run) w None old new out_old out_new

-- how many children were started in all
abbrev pub starts_in : World → ℕ
starts_in w = length (started_numbers w.log)

-- One such run led from the world that was told to the one that is, and started so many children, none of which runs still.
pub record IsRunOnce (was now : Option World) (started : ℕ) : Type 0 where
  pub entry : World
  pub exit : World
  pub begins : was ≡ Some entry
  pub ends : now ≡ Some exit
  pub ran : Ran entry exit
  pub rests : exit.children ≡ []
  pub counted : starts_in entry + started ≡ starts_in exit
