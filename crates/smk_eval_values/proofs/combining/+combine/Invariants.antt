use Rattle.std.proofs.Common.{◌≡◌, ℕ, List, [], ◌∷◌, ◌++◌, length, take}
use Rattle.std.specs.List.{flat_map}
use Rattle.smk_eval_values.specs.Letters.{letters_of}
use Rattle.smk_eval_values.specs.Expanding.{combined}
use Rattle.smk_eval_values.proofs.combining.+combine.Given as goal

abbrev pub decreases-combine : goal.decreases-combine
decreases-combine l = length l.choices.now

abbrev pub invariant-loop-value : goal.invariant-loop-value
invariant-loop-value l =
    l.texts ≡ l.initial.texts ++ flat_map (λ (v : List ℕ). combined (letters_of l.pieces) (l.bound ++ record { name = l.first.name; value = v } ∷ []) l.later) (take l.value-index l.values)
