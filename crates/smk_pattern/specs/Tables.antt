-- What a table of vain tries says.
use Rattle.std.specs.Prelude.{◌≡◌, ◌⊎◌, ℕ, ◌<◌, ◌≤◌, List, [], ◌∷◌, ◌++◌, length, get_or, map, Bool, true, false, Option, nat_le, ◌&&◌, ◌-◌}
use Rattle.std.specs.Global.{Global}
use Rattle.std.specs.declared.vec.Vec.{Vec}
use Rattle.smk_pattern.specs.declared.table.Vain.{Vain}
use Rattle.smk_pattern.specs.Shapes.{Text, Part, IsNumbered}
use Rattle.smk_pattern.specs.Shapes.Part.{text, wild}
use Rattle.smk_pattern.specs.Searching.{RestFits}

-- the row has a sign for so many bytes
abbrev pub is_signed : List (Vec Bool Global) → ℕ → ℕ → Bool
is_signed rows row bytes = get_or (get_or (map (λ (r : Vec Bool Global). r.items) rows) row []) bytes false

-- so many parts were tried in vain on the last so many bytes
abbrev pub is_vain : Vain → ℕ → ℕ → Bool
is_vain vain parts bytes = nat_le parts vain.from && is_signed vain.rows.items (vain.from - parts) bytes

-- each wildcard of these parts is one of the first so many, or has no value yet where so many have one
abbrev pub IsApart : ℕ → ℕ → List Part → Type 0
IsApart given known [] = Unit {0}
IsApart given known (text t ∷ ps) = IsApart given known ps
IsApart given known (wild n ∷ ps) = ((n < given) ⊎ (known ≤ n)) × IsApart given known ps

-- of the known values only the given ones, which are the first, count for these parts
pub record Stands (given known : List Text) (ps : List Part) : Type 0 where
  pub others : List Text
  pub begins : known ≡ given ++ others
  pub apart : IsApart (length given) (length known) ps

-- whatever values follow the given ones, nothing fits
abbrev pub FitsNever : List Text → List Part → List (Option Text) → Text → Type 0
FitsNever given ps limits t =
    (known : List Text) → Stands given known ps → IsNumbered ps (length known) (length limits) →
    (more : List Text) → RestFits ps limits known t more → ⊥

-- what the table has is true of the ends of these parts and of this text, with the given values for the first wildcards
pub record IsSound (given : List Text) (whole : List Part) (limits : List (Option Text)) (path : Text) (vain : Vain) : Type 0 where
  pub never : (front ps : List Part) (before t : Text) → whole ≡ front ++ ps → path ≡ before ++ t →
      is_vain vain (length ps) (length t) ≡ true → FitsNever given ps limits t

-- it is true that so many parts, the last of these, are tried in vain on the last so many bytes of the text
pub record IsVain (given : List Text) (whole : List Part) (limits : List (Option Text)) (path : Text) (parts bytes : ℕ) : Type 0 where
  pub front : List Part
  pub ps : List Part
  pub before : Text
  pub t : Text
  pub ends : whole ≡ front ++ ps
  pub left : path ≡ before ++ t
  pub parts_left : parts ≡ length ps
  pub bytes_left : bytes ≡ length t
  pub never : FitsNever given ps limits t

-- what is new in the table is true
pub record Keeps (given : List Text) (ps : List Part) (limits : List (Option Text)) (t : Text) (old new : Vain) : Type 0 where
  pub true_ones : (parts bytes : ℕ) → is_vain new parts bytes ≡ true →
      (is_vain old parts bytes ≡ true) ⊎ IsVain given ps limits t parts bytes

-- whichever values are given
abbrev pub KeepsAll : List Text → List Part → List (Option Text) → Text → Vain → Vain → Type 0
KeepsAll known ps limits t old new = (given : List Text) → Stands given known ps → Keeps given ps limits t old new

-- the table is sound for some given ones of the known values
pub record Serves (known : List Text) (ps : List Part) (limits : List (Option Text)) (t : Text) (vain : Vain) : Type 0 where
  pub given : List Text
  pub stands : Stands given known ps
  pub sound : IsSound given ps limits t vain

-- the same, behind the first part
pub record ServesBehind (known : List Text) (p : Part) (ps : List Part) (limits : List (Option Text)) (t : Text) (vain : Vain) : Type 0 where
  pub given : List Text
  pub stands : Stands given known (p ∷ ps)
  pub sound : IsSound given ps limits t vain
