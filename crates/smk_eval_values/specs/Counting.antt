-- How many texts a pattern gives.
use Rattle.std.specs.Prelude.{ℕ, ◌*◌, List, [], ◌∷◌, length, nat_lt, if◌then◌else◌}
use Rattle.smk_eval_values.specs.declared.choices.Choices.{Choices}
use Rattle.smk_eval_values.specs.Letters.{Letter, stands}

-- how many combinations there are
abbrev pub count_of : List Letter → List Choices → ℕ
count_of ls [] = 1
count_of ls (c ∷ cs) = if stands ls c.name then length c.values * count_of ls cs else count_of ls cs

-- a count that is told no further than one above the limit
abbrev pub limited : ℕ → ℕ
limited n = if nat_lt 100_000 n then 100_001 else n
