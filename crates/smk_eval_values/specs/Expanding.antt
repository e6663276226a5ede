-- What `expand` gives.
use Rattle.std.specs.Prelude.{ℕ, ◌+◌, Bool, not, ◌&&◌, ◌==◌, List, [], ◌∷◌, ◌++◌, length, map, nat_lt, Option, Some, None, Result, Ok, Err, if◌then◌else◌, slice_index_or}
use Rattle.std.specs.List.{list_any, list_all, filter, flat_map, range_with_len}
use Rattle.std.specs.Str.{bytes_eq}
use Rattle.smk_base.specs.declared.tree.Pair.{Pair}
use Rattle.smk_eval_values.specs.declared.choices.Choices.{Choices}
use Rattle.smk_eval_values.specs.declared.expanding.ExpandFault.{ExpandFault}
use Rattle.smk_eval_values.specs.declared.expanding.ExpandFault.TheVariants.{UnknownName, UnequalZip, TooMany}
use Rattle.smk_eval_values.specs.Letters.{Letter, plain, name, letters, filled, stands}

-- ## All combinations

-- The texts of a pattern, with each value of each name that stands in it, the last name fastest; these are bound before.
abbrev pub combined : List Letter → List Pair → List Choices → List (List ℕ)
combined ls bound [] = filled bound ls ∷ []
combined ls bound (c ∷ cs) =
    if stands ls c.name then flat_map (λ v. combined ls (bound ++ record { name = c.name; value = v } ∷ []) cs) c.values
    else combined ls bound cs

-- ## Pairs

-- the names that stand in the pattern
abbrev pub used : List Letter → List Choices → List Choices
used ls = filter (λ c. stands ls c.name)

abbrev pub first_count : List Choices → ℕ
first_count [] = 0
first_count (c ∷ cs) = length c.values

-- how many values the first name has that stands in the pattern
abbrev pub rows : List Letter → List Choices → ℕ
rows ls choices = first_count (used ls choices)

-- each name that stands in the pattern has this many values
abbrev pub has_each : ℕ → List Letter → List Choices → Bool
has_each n ls choices = list_all (λ c. length c.values == n) (used ls choices)

-- they all have the same number of values
abbrev pub is_even : List Letter → List Choices → Bool
is_even ls choices = has_each (rows ls choices) ls choices

-- the values at this place
abbrev pub row : ℕ → List Choices → List Pair
row i = map (λ c. record { name = c.name; value = slice_index_or c.values i [] })

abbrev pub paired : List Letter → List Choices → List (List ℕ)
paired ls choices = map (λ i. filled (row i choices) ls) (range_with_len 0 (rows ls choices))

-- ## The whole

abbrev pub has_values : List Choices → List ℕ → Bool
has_values choices n = list_any (λ c. bytes_eq c.name n) choices

-- the first name of a pattern that has no values
abbrev pub unknown : List Choices → List Letter → Option (List ℕ)
unknown choices [] = None
unknown choices (plain b ∷ ls) = unknown choices ls
unknown choices (name n ∷ ls) = if has_values choices n then unknown choices ls else Some n

-- the name for which a pattern is refused
abbrev pub refused : Bool → List Choices → List Letter → Option (List ℕ)
refused missing choices ls = if missing then None else unknown choices ls

abbrev pub unless_unknown : Option (List ℕ) → Result (List (List ℕ)) ExpandFault → Result (List (List ℕ)) ExpandFault
unless_unknown None made = made
unless_unknown (Some n) made = Err (UnknownName n)

abbrev pub texts : Bool → List Choices → List Letter → List (List ℕ)
texts zip choices ls = if zip then paired ls choices else combined ls [] choices

-- after the texts that were made, these, unless there are more than 100,000 in all
abbrev pub within : List (List ℕ) → List (List ℕ) → Result (List (List ℕ)) ExpandFault
within made more = if nat_lt 100_000 (length made + length more) then Err TooMany else Ok (made ++ more)

-- after the texts that were made, those of this pattern
abbrev pub expanded_one : Bool → Bool → List Choices → List (List ℕ) → List Letter → Result (List (List ℕ)) ExpandFault
expanded_one zip missing choices made ls =
    unless_unknown (refused missing choices ls) (if zip && not (is_even ls choices) then Err UnequalZip else within made (texts zip choices ls))

-- the same for patterns in order, up to the first fault
abbrev pub and_then : Result (List (List ℕ)) ExpandFault → (List (List ℕ) → Result (List (List ℕ)) ExpandFault) → Result (List (List ℕ)) ExpandFault
and_then (Err fault) next = Err fault
and_then (Ok made) next = next made

abbrev pub expanded : Bool → Bool → List Choices → List (List ℕ) → List (List ℕ) → Result (List (List ℕ)) ExpandFault
expanded zip missing choices made [] = Ok made
expanded zip missing choices made (p ∷ ps) = and_then (expanded_one zip missing choices made (letters p)) (λ now. expanded zip missing choices now ps)
