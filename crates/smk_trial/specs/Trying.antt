-- The runs of a trial, and what is counted.
use Rattle.std.specs.Prelude.{◌≡◌, ℕ, codes, length, Option, Some}
use Rattle.smk_world.specs.Trees.{Path}
use Rattle.smk_world.specs.World.{World, reading}
use Rattle.smk_world_mem.specs.Work.{file_bytes}
use Rattle.smk_gen.specs.Files.{Text}
use Rattle.smk_gen.specs.Made.{IsGenerated}
use Rattle.smk_trial.specs.Editing.{IsEdited}
use Rattle.smk_trial.specs.Running.{IsRunOnce}

-- the file of the joined copies
abbrev pub total_path : Path
total_path = codes "total.txt"

-- it is there, with so many bytes
pub record HasTotal (w : World) (total : ℕ) : Type 0 where
  pub text : Text
  pub holds : file_bytes (reading (w.nodes total_path)) ≡ Some text
  pub counted : length text ≡ total

-- From the world that was told to the one that is: a run; a second run; an edit of one source, and a third run. So many children were started by each,
-- and at the end the joined copies have so many bytes.
pub record IsTried (seed size first second third total : ℕ) (was now : Option World) : Type 0 where
  pub once : Option World
  pub first_run : IsRunOnce was once first
  pub twice : Option World
  pub second_run : IsRunOnce once twice second
  pub edited : Option World
  pub edit : (w : World) → edited ≡ Some w → IsEdited seed size twice w
  pub third_run : IsRunOnce edited now third
  pub joined : HasTotal third_run.exit total

-- So it went in the workspace of the files of this seed and this size.
pub record HasTried (seed size first second third total : ℕ) (now : Option World) : Type 0 where
  pub generated : Option World
  pub files : IsGenerated seed size generated
  pub tried : IsTried seed size first second third total generated now
