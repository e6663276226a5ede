-- What the pairs of a binding are.
use Rattle.std.specs.Prelude.{◌≡◌, List}
use Rattle.smk_base.specs.declared.tree.Pair.{Pair}
use Rattle.smk_pattern.specs.Shapes.{Text, Shape}
use Rattle.smk_pattern.specs.Fitting.{IsBinding, bound_pairs}

-- the pairs are the binding of the path, each name with its value
abbrev pub IsBindingOf : Shape → Text → List Pair → Type 0
IsBindingOf p path pairs = (values : List Text) × IsBinding p path values × (pairs ≡ bound_pairs p.wildcards values)
