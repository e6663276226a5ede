-- The files that a seed and a size give: a workflow of so many samples, and the source of each.
use Rattle.std.specs.Prelude.{ℕ, zero, suc, ◌+◌, ◌*◌, ◌%◌, List, [], ◌∷◌, ◌++◌, map, codes, decimal, false}
use Rattle.std.specs.List.{flat_map}
use Rattle.smk_world.specs.declared.event.Node.{Node}
use Rattle.smk_world.specs.declared.event.Node.TheVariants.{Regular, Directory}
use Rattle.smk_world.specs.Trees.{Path}
use Rattle.smk_world.specs.World.{Nodes}

abbrev pub Text : Type 0
Text = List ℕ

-- ## Sources

-- the numbers of the sources: so many from this one on
abbrev pub numbers_from : ℕ → ℕ → List ℕ
numbers_from first zero = []
numbers_from first (suc count) = first ∷ numbers_from (suc first) count

-- what the source of this number holds
abbrev pub source_text : ℕ → ℕ → Text
source_text seed number = decimal ((seed * 31 + number * 17) % 1000) ++ 10 ∷ []

-- the folder in which the sources stand
abbrev pub source_folder : Path
source_folder = codes "s"

abbrev pub source_path : ℕ → Path
source_path number = codes "s/" ++ (decimal number ++ codes ".txt")

-- the source of this number, whose time that is
abbrev pub source_node : ℕ → ℕ → Node
source_node seed number = Regular (source_text seed number) number false

abbrev pub source_file : ℕ → ℕ → Path × Node
source_file seed number = (source_path number, source_node seed number)

abbrev pub source_files : ℕ → ℕ → Nodes
source_files seed size = map (source_file seed) (numbers_from 1 size)

-- ## The workflow

abbrev pub lines_text : List Text → Text
lines_text lines = flat_map (λ line. line ++ 10 ∷ []) lines

-- a sample in the list of them
abbrev pub sample_text : ℕ → Text
sample_text number = codes " \"" ++ (decimal number ++ codes "\" ,")

-- the list of the samples, but for its end
abbrev pub list_text : ℕ → Text
list_text size = codes "IDS = [" ++ flat_map sample_text (numbers_from 1 size)

-- the end of the list and the lines behind it: each source is copied, and the copies are joined
abbrev pub rule_lines : List Text
rule_lines =
    codes " ]"
    ∷ codes "rule all :"
    ∷ codes "    input : \"total.txt\""
    ∷ codes "rule one :"
    ∷ codes "    input : \"s/{i}.txt\""
    ∷ codes "    output : \"m/{i}.txt\""
    ∷ codes "    shell : \"cat {input} > {output}\""
    ∷ codes "rule total :"
    ∷ codes "    input : expand ( \"m/{i}.txt\" , i = IDS )"
    ∷ codes "    output : \"total.txt\""
    ∷ codes "    shell : \"cat {input} > {output}\""
    ∷ []

-- the list of the samples and the rules, as the printer of workflow files writes them
abbrev pub snakefile_text : ℕ → Text
snakefile_text size = list_text size ++ lines_text rule_lines

abbrev pub snakefile_path : Path
snakefile_path = codes "Snakefile"

-- the time of the workflow's file is the one after those of the sources
abbrev pub snakefile_node : ℕ → Node
snakefile_node size = Regular (snakefile_text size) (suc size) false

-- ## The folder

-- all that stands there, with the folder of the sources
abbrev pub generated_files : ℕ → ℕ → Nodes
generated_files seed size = (snakefile_path, snakefile_node size) ∷ (source_folder, Directory) ∷ source_files seed size
