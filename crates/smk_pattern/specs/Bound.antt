-- The binding of a path, computed, and the law that ties it to the relation.
use Rattle.std.specs.Prelude.{◌≡◌, ℕ, Bool, true, false, ◌&&◌, not, List, [], ◌∷◌, ◌++◌, map, reverse, take, drop, length, ◌+◌, ◌==◌, nat_le, Option, Some, None, option_map, IsUtf8, slice_get, get_or}
use Rattle.std.specs.List.{flat_map, range_with_len}
use Rattle.std.specs.Int.{is_in_range}
use Rattle.smk_base.specs.declared.tree.Pair.{Pair}
use Rattle.smk_pattern.specs.Limits.{meets}
use Rattle.smk_pattern.specs.Shapes.{Text, Part, Wildcard, Shape, IsNumbered, AreTexts}
use Rattle.smk_pattern.specs.Shapes.Part.{text, wild}
use Rattle.smk_pattern.specs.Fitting.{Fits, IsBinding, bound_pairs}
use Rattle.smk_pattern.specs.Reading.{by_name, fill, shape_of}

-- the text starts with these bytes
abbrev pub begins : Text → Text → Bool
begins [] t = true
begins (b ∷ front) [] = false
begins (b ∷ front) (c ∷ t) = b == c && begins front t

abbrev pub suits : Option Text → Text → Bool
suits None v = nat_le 1 (length v)
suits (Some limit) v = meets limit v

-- a character of UTF-8 may begin here
abbrev pub is_cut : Text → Bool
is_cut [] = true
is_cut (b ∷ t) = not (is_in_range 128 191 b)

abbrev pub limit_at : List (Option Text) → ℕ → Option Text
limit_at limits n = get_or limits n None

-- All values with which the parts give the path, the longest first, after those for the wildcards before.
abbrev pub bindings : List (Option Text) → List Part → Text → List Text → List (List Text)
bindings limits [] [] values = values ∷ []
bindings limits [] (b ∷ path) values = []
bindings limits (text t ∷ ps) path values =
    elim (begins t path) as (λ _. List (List Text)) [ true ↦ bindings limits ps (drop (length t) path) values | false ↦ [] ]
bindings limits (wild n ∷ ps) path values =
    elim (slice_get values n) as (λ _. List (List Text)) [
      | Some v ↦ elim (begins v path) as (λ _. List (List Text)) [ true ↦ bindings limits ps (drop (length v) path) values | false ↦ [] ]
      | None ↦
          flat_map
          (λ k. elim (is_cut (drop k path) && suits (limit_at limits n) (take k path)) as (λ _. List (List Text)) [
            | true ↦ bindings limits ps (drop k path) (values ++ take k path ∷ [])
            | false ↦ []
          ])
          (reverse (range_with_len 0 (length path + 1)))
    ]

abbrev pub first_values : List (List Text) → Option (List Text)
first_values [] = None
first_values (v ∷ vs) = Some v

-- the values that are taken for a path, where some fit
abbrev pub bound : Shape → Text → Option (List Text)
bound p path = first_values (bindings (map (λ (w : Wildcard). w.limit) p.wildcards) p.parts path [])

-- the binding of a path by a pattern's text, put by name, so that it doesn't depend on the order in which the wildcards stand
abbrev pub binding_of : List Pair → Text → Text → Option (List Pair)
binding_of limits t path = option_map (λ values. by_name (bound_pairs (shape_of limits t).wildcards values)) (bound (shape_of limits t) path)

-- The computed binding is the one of the relation: it is there exactly where some values fit, and it is that binding.
abbrev pub BoundIsBinding : Type 0
BoundIsBinding =
    (p : Shape) (path : Text) →
    IsNumbered p.parts 0 (length p.wildcards) →
    AreTexts p.parts →
    IsUtf8 path →
    ((values : List Text) → bound p path ≡ Some values → IsBinding p path values)
    × (bound p path ≡ None → (values : List Text) → ¬ Fits p path values)

-- A binding, put by name, fills its pattern's text to the path.
abbrev pub BoundFills : Type 0
BoundFills = (limits : List Pair) (t path : Text) (b : List Pair) → binding_of limits t path ≡ Some b → fill b t ≡ path
