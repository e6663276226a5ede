-- Elements by their numbers.
use Rattle.std.specs.Prelude.{ℕ, Bool, false, List, Option, Some, None, slice_get, ◌==◌}
use Rattle.std.specs.List.{list_any}

-- whether the number is in the list
abbrev pub has : List ℕ → ℕ → Bool
has xs j = list_any (λ k. k == j) xs

-- the test that is there
abbrev pub is_true : Option Bool → Bool
is_true None = false
is_true (Some b) = b

-- whether the list has true at this place
abbrev pub is_true_at : List Bool → ℕ → Bool
is_true_at tests j = is_true (slice_get tests j)
