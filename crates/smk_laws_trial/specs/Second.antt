-- What the second run of a trial starts: nothing.
use Rattle.std.specs.Prelude.{◌≡◌, ℕ, List, Option, Some}
use Rattle.smk_world.specs.Trees.{Path}
use Rattle.smk_world.specs.World.{World, Nodes, node_in}
use Rattle.smk_world_mem.specs.Work.{file_bytes}
use Rattle.smk_laws_history.specs.Histories.{DifferInSums}
use Rattle.smk_gen.specs.Files.{generated_files}
use Rattle.smk_trial.specs.Trying.{HasTried}

-- one of the files has these bytes
abbrev pub IsOfFile : Nodes → List ℕ → Type 0
IsOfFile files bytes = (p : Path) × (file_bytes (node_in files p) ≡ Some bytes)

-- Whatever the seed and the size, the second run of a trial starts no job. The one premise is that no two different texts of the generated files have the same
-- SHA-256. It has to stand: by the digests of its inputs a record tells whether a job is to run, and that those of so many texts differ is shown by nothing
-- but computing them. All else that a next run asks for (`NextRunStartsNothing`) is so of each trial: its folder is one to begin with, each file that is read
-- for its workflow is a source, and the first run leaves that workflow's file the one that counts.
abbrev pub SecondRunStartsNothing : Type 0
SecondRunStartsNothing =
    (seed size first second third total : ℕ) (now : Option World) →
    DifferInSums (IsOfFile (generated_files seed size)) → HasTried seed size first second third total now → second ≡ 0
