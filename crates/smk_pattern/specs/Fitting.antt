-- When values for the wildcards of a pattern fit a path, and which of them are taken.
use Rattle.std.specs.Prelude.{◌≡◌, ℕ, ◌<◌, ◌≤◌, List, [], ◌∷◌, ◌++◌, length, take, get_or, map, true, Option, None, Some, IsUtf8}
use Rattle.smk_base.specs.declared.tree.Pair.{Pair}
use Rattle.smk_pattern.specs.Limits.{meets}
use Rattle.smk_pattern.specs.Shapes.{Text, Part, Wildcard, Shape}
use Rattle.smk_pattern.specs.Shapes.Part.{text, wild}

-- the text that a part stands for
abbrev pub part_text : List Text → Part → Text
part_text values (text t) = t
part_text values (wild n) = get_or values n []

-- the pattern with its wildcards filled
abbrev pub filled : List Part → List Text → Text
filled [] values = []
filled (p ∷ ps) values = part_text values p ++ filled ps values

-- the value meets the constraint; without one it need only not be empty
abbrev pub Suits : Option Text → Text → Type 0
Suits None value = 0 < length value
Suits (Some limit) value = meets limit value ≡ true

-- one value for each wildcard: a text that meets its constraint
abbrev pub AllSuit : List (Option Text) → List Text → Type 0
AllSuit [] [] = Unit {0}
AllSuit [] (value ∷ values) = ⊥
AllSuit (limit ∷ limits) [] = ⊥
AllSuit (limit ∷ limits) (value ∷ values) = IsUtf8 value × Suits limit value × AllSuit limits values

-- Values fit a path: filling the pattern with them gives the path, and each meets its constraint. Since a wildcard has one
-- value wherever it stands, equal names have equal values.
pub record Fits (p : Shape) (path : Text) (values : List Text) : Type 0 where
  pub fills : filled p.parts values ≡ path
  pub suit : AllSuit (map (λ w. w.limit) p.wildcards) values

-- The values that are taken: no other fitting ones exceed them in length at the first wildcard where the two differ.
pub record IsBinding (p : Shape) (path : Text) (values : List Text) : Type 0 where
  pub fits : Fits p path values
  pub longest : (others : List Text) → Fits p path others → (n : ℕ) → take n others ≡ take n values →
      length (get_or others n []) ≤ length (get_or values n [])

-- each name with its value
abbrev pub bound_pairs : List Wildcard → List Text → List Pair
bound_pairs [] values = []
bound_pairs (w ∷ ws) [] = []
bound_pairs (w ∷ ws) (v ∷ vs) = record { name = w.name; value = v } ∷ bound_pairs ws vs
