-- The files that a workflow is read from.
use Rattle.std.specs.Prelude.{◌≡◌, List, [], ◌++◌, map, Ok, Err, IsOk}
use Rattle.smk_base.specs.declared.tree.Pair.{Pair}
use Rattle.smk_world.specs.Trees.{Path, Each}
use Rattle.smk_eval_files.specs.Looks.{Nodes}
use Rattle.smk_eval_files.specs.Reading.{Files, bytes_at, files_at}
use Rattle.smk_eval_files.specs.Texts.{whole}
use Rattle.smk_eval.specs.Loading.{config_files, loaded}

-- the paths of these files, and those of the configurations that they name
abbrev pub paths_of : Files → List Path
paths_of (Ok files) = map (λ f. f.file) files ++ config_files (whole files)
paths_of (Err fault) = []

-- The files that are read for the workflow of the file at this path: that file and its includes, and the configurations that they name. It is none
-- where that file or an include doesn't read.
abbrev pub files_read : Nodes → Path → List Path
files_read nodes file = paths_of (files_at nodes file)

-- What is loaded is told by the files that are read, where the file and its includes read, since else these aren't told: it is the same, be it a workflow or
-- a fault, in other nodes in which each of them has the same bytes, and there the same files are read.
abbrev pub LoadedByFiles : Type 0
LoadedByFiles =
    (before after : Nodes) (file : Path) (sets : List Pair) →
    IsOk (files_at before file) →
    Each (λ p. bytes_at after p ≡ bytes_at before p) (files_read before file) →
    (loaded after file sets ≡ loaded before file sets) × (files_read after file ≡ files_read before file)
