-- How far a text has been looked through for names.
use Rattle.std.specs.Prelude.{ℕ, Bool, [], ◌∷◌, not, ◌+◌, ◌==◌, Option, Some, None, option_map, if◌then◌else◌}
use Rattle.std.specs.List.{list_all}
use Rattle.smk_pattern.specs.Shapes.{Text}
use Rattle.smk_pattern.specs.Splitting.{between}

-- what stands between the brace that opens and this place
abbrev pub begun_of : Text → ℕ → Option ℕ → Option Text
begun_of t at open_brace = option_map (λ s. between (s + 1) at t) open_brace

-- the place of the last brace that opens, after the byte at this place
abbrev pub brace_after : ℕ → ℕ → Option ℕ → Option ℕ
brace_after b at open_brace = if b == 123 then Some at else (if b == 125 then None else open_brace)

-- the byte doesn't stand in the text
abbrev pub lacks : ℕ → Text → Bool
lacks b t = list_all (λ c. not (c == b)) t

-- a brace that opens with what stands behind it, where there is one
abbrev pub from_brace : Option Text → Text
from_brace None = []
from_brace (Some behind) = 123 ∷ behind
