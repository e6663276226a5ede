-- The command of a job.
use Rattle.std.specs.Prelude.{ℕ, Bool, true, false, ◌||◌, ◌==◌, not, nat_lt, List, [], ◌∷◌, length, Option, Some, None, option_map, is_some, decimal, codes, if◌then◌else◌}
use Rattle.std.specs.List.{find, flat_map, list_any, join_by}
use Rattle.smk_flow.specs.declared.job.Job.{Job}
use Rattle.smk_template.specs.Templates.{Text, Symbol, Plain, Field, Loose, symbols, written}
use Rattle.smk_format.specs.Fields.{is_threads, values_of}

-- whether it stands for something
abbrev pub has_value : Job → Symbol → Bool
has_value job (Plain b) = true
has_value job (Field field) = is_threads field || is_some (values_of job field)
has_value job (Loose text) = false

-- the first field without a value, or brace without another
abbrev pub first_missing : Job → List Symbol → Option Text
first_missing job ss = option_map written (find (λ s. not (has_value job s)) ss)

-- texts with a space between
abbrev pub spaced : List Text → Text
spaced = join_by (λ (t : Text). t) (codes " ")

abbrev pub shown : Option (List Text) → Text
shown None = []
shown (Some values) = spaced values

-- what a field stands for, with so many threads
abbrev pub field_text : Job → ℕ → Text → Text
field_text job threads field = if is_threads field then decimal threads else shown (values_of job field)

abbrev pub symbol_text : Job → ℕ → Symbol → Text
symbol_text job threads (Plain b) = b ∷ []
symbol_text job threads (Field field) = field_text job threads field
symbol_text job threads (Loose text) = []

abbrev pub filled : Job → ℕ → List Symbol → Text
filled job threads = flat_map (symbol_text job threads)

-- The first field of a job's command that has no value. The number of threads plays no part in it.
abbrev pub missing : Job → Option Text
missing job = first_missing job (symbols job.recipe.template)

-- The text of a job's command with so many threads.
abbrev pub command : Job → ℕ → Text
command job threads = filled job threads (symbols job.recipe.template)

abbrev pub has_nul : Text → Bool
has_nul text = list_any (λ b. b == 0) text

-- the bytes that are told of a command that is refused: 0 of one with NUL, the length of one that has more than 120,000
abbrev pub excess : Text → Option ℕ
excess text = if has_nul text then Some 0 else (if nat_lt 120000 (length text) then Some (length text) else None)
