-- What a pattern is with values for its names.
use Rattle.std.specs.Prelude.{◌≡◌, List, map, Option, option_map, is_some, not}
use Rattle.std.specs.List.{find}
use Rattle.smk_base.specs.declared.tree.Pair.{Pair}
use Rattle.smk_pattern.specs.Shapes.{Text, Wildcard}
use Rattle.smk_pattern.specs.Fitting.{filled}
use Rattle.smk_pattern.specs.Reading.{value, or_empty, fill, shape_of}

-- the value of each wildcard, by its name
abbrev pub values_of : List Pair → List Wildcard → List Text
values_of binding = map (λ w. or_empty (value binding w.name))

-- the first name that has no value
abbrev pub first_unknown : List Pair → List Wildcard → Option Text
first_unknown binding wildcards = option_map (λ (w : Wildcard). w.name) (find (λ (w : Wildcard). not (is_some (value binding w.name))) wildcards)

-- The pattern that a text is, filled with the values of a binding, is the text filled by the binding. A name without a value stands
-- for nothing in both.
abbrev pub FillIsFilled : Type 0
FillIsFilled =
    (given : List Pair) (source : Text) (binding : List Pair) →
    filled (shape_of given source).parts (values_of binding (shape_of given source).wildcards) ≡ fill binding source
