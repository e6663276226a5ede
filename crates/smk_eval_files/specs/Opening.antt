-- The steps by which files are read.
use Rattle.std.specs.Prelude.{ℕ, zero, suc, List, [], ◌∷◌, ◌++◌, Result, Ok, Err}
use Rattle.smk_eval_files.specs.declared.files.ReadFile.{ReadFile}
use Rattle.smk_eval_files.specs.declared.reading.Opened.{Opened}
use Rattle.smk_flaws.specs.declared.flaw.FileFlaw.TheVariants.{IncludeDepth}
use Rattle.smk_flaws.specs.declared.fault.FileFault.{FileFault}
use Rattle.smk_flaws.specs.declared.fault.FileFault.TheVariants.{Flawed}
use Rattle.smk_eval_files.specs.Reading.{and_then, syntax_in, read_as, includes, target, Files}

-- a file that is put after others
abbrev pub opened : List ReadFile → ReadFile → Opened
opened made f = record { files = made ++ f ∷ []; file = f.file; includes = includes f.syntax.statements }

abbrev pub opened_as : ℕ → List ReadFile → List ℕ → List ℕ → Result Opened FileFault
opened_as zero made file source = Err (Flawed (IncludeDepth file))
opened_as (suc depth) made file source = and_then (read_as file (syntax_in file source)) (λ f. Ok (opened made f))

-- the files of one include
abbrev pub include_from : (List ℕ → Files) → List ℕ → List ℕ → Files
include_from read file t = and_then (target file t) read
