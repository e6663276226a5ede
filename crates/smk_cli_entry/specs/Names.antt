-- The workflow file of a folder.
use Rattle.std.specs.Prelude.{Bool, true, false, List, [], ◌∷◌, codes, Option, Some, None, Result, Ok, Err}
use Rattle.std.specs.List.{find}
use Rattle.smk_world.specs.declared.event.Stat.{Stat}
use Rattle.smk_world.specs.declared.event.Stat.TheVariants.{Nothing, File, Folder}
use Rattle.smk_world.specs.Calls.{stat_of}
use Rattle.smk_world.specs.Trees.{Path}
use Rattle.smk_eval_files.specs.Looks.{Nodes, at}
use Rattle.smk_flaws.specs.declared.flaw.FileFlaw.TheVariants.{NoFile}
use Rattle.smk_flaws.specs.declared.flaw.Flaw.TheVariants as flaw
use Rattle.smk_report.specs.declared.fault.Fault.{Fault}
use Rattle.smk_report.specs.declared.fault.Fault.TheVariants.{Workflow}

-- the first of two
abbrev pub or_else : {A : Type 0} → Option A → Option A → Option A
or_else None rest = rest
or_else (Some first) rest = Some first

abbrev pub is_file : Stat → Bool
is_file Nothing = false
is_file (File time read_only) = true
is_file Folder = false

-- a file is there
abbrev pub is_file_at : Nodes → Path → Bool
is_file_at nodes p = is_file (stat_of (at nodes p))

-- the path, where what stands there is a file
abbrev pub where_file : Path → Stat → Option Path
where_file p Nothing = None
where_file p (File time read_only) = Some p
where_file p Folder = None

abbrev pub file_at : Nodes → Path → Option Path
file_at nodes p = where_file p (stat_of (at nodes p))

-- the names that a workflow file may have, the one that counts first
abbrev pub file_names : List Path
file_names = codes "Snakefile" ∷ codes "snakefile" ∷ codes "workflow/Snakefile" ∷ codes "workflow/snakefile" ∷ []

-- the first of these that is there
abbrev pub first_file : Nodes → List Path → Option Path
first_file nodes names = find (is_file_at nodes) names

abbrev pub or_no_file : Option Path → Result Path Fault
or_no_file None = Err (Workflow (flaw.File (NoFile (codes "Snakefile"))))
or_no_file (Some p) = Ok p

-- the file with the workflow of a folder
abbrev pub workflow_file : Nodes → Result Path Fault
workflow_file nodes = or_no_file (first_file nodes file_names)

-- the file that is named, or else that of the folder
abbrev pub file_of : Nodes → Option Path → Result Path Fault
file_of nodes None = workflow_file nodes
file_of nodes (Some file) = Ok file
