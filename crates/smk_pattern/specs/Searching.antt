-- What a search from a place in the pattern finds.
use Rattle.std.specs.Prelude.{◌≡◌, ℕ, ◌≤◌, ◌==◌, ◌||◌, List, [], ◌∷◌, ◌++◌, length, take, drop, get_or, map, set, Bool, true, false, Option, IsUtf8}
use Rattle.std.specs.Borrow.{Bor}
use Rattle.smk_pattern.specs.Shapes.{Text, Part, IsNumbered}
use Rattle.smk_pattern.specs.Shapes.Part.{text, wild}
use Rattle.smk_pattern.specs.Fitting.{filled, part_text, AllSuit}

abbrev pub now_of : List (Bor Text) → List Text
now_of = map (λ v. v.now)

-- with these values for the other wildcards, the parts give the text
pub record RestFits (ps : List Part) (limits : List (Option Text)) (known : List Text) (rest : Text) (more : List Text) : Type 0 where
  pub fills : filled ps (known ++ more) ≡ rest
  pub suit : AllSuit (drop (length known) limits) more

-- no other such values exceed them at the first wildcard where the two differ
pub record IsRest (ps : List Part) (limits : List (Option Text)) (known : List Text) (rest : Text) (more : List Text) : Type 0 where
  pub fits : RestFits ps limits known rest more
  pub longest : (others : List Text) → RestFits ps limits known rest others → (n : ℕ) → take n others ≡ take n more →
      length (get_or others n []) ≤ length (get_or more n [])

-- nothing fits
abbrev pub FitsNowhere : List Part → List (Option Text) → List Text → Text → Type 0
FitsNowhere ps limits known rest = (more : List Text) → RestFits ps limits known rest more → ⊥

abbrev pub Searched : Bool → List Part → List (Option Text) → List Text → Text → List Text → Type 0
Searched true ps limits known rest now = (more : List Text) × (now ≡ known ++ more) × IsRest ps limits known rest more
Searched false ps limits known rest now = (now ≡ known) × FitsNowhere ps limits known rest

-- the same, but that values may be left behind where nothing fits
abbrev pub Ends : Bool → List Part → List (Option Text) → List Text → Text → List Text → Type 0
Ends true ps limits known rest now = Searched true ps limits known rest now
Ends false ps limits known rest now = (more : List Text) × (now ≡ known ++ more) × FitsNowhere ps limits known rest

-- only the empty value is left for the wildcard that stands first
abbrev pub Longest : Bool → List Part → List (Option Text) → List Text → Text → List Text → Type 0
Longest true ps limits known rest now = Searched true ps limits known rest now
Longest false ps limits known rest now =
    (now ≡ known) × ((value : Text) (more : List Text) → RestFits ps limits known rest (value ∷ more) → value ≡ [])

-- what is found from a later place, with some more values, is what is found from this one
pub record Leads (ps later : List Part) (limits : List (Option Text)) (known now : List Text) (rest after : Text) : Type 0 where
  pub added : List Text
  pub begins : now ≡ known ++ added
  pub finds : (more : List Text) → IsRest later limits now after more → IsRest ps limits known rest (added ++ more)
  pub none : FitsNowhere later limits now after → FitsNowhere ps limits known rest

-- the part stands for this text, whatever values follow
pub record IsKnown (p : Part) (known : List Text) (t : Text) : Type 0 where
  pub stands : (more : List Text) → part_text (known ++ more) p ≡ t

-- the wildcard of this number is one of the parts
abbrev pub stands_in : ℕ → List Part → Bool
stands_in n [] = false
stands_in n (text t ∷ ps) = stands_in n ps
stands_in n (wild m ∷ ps) = (m == n) || stands_in n ps

-- behind each place of a wildcard stand at least so many of these parts
abbrev pub AreBehind : List ℕ → List Part → Type 0
AreBehind behind [] = Unit {0}
AreBehind behind (text t ∷ ps) = AreBehind behind ps
AreBehind behind (wild n ∷ ps) = (get_or behind n 0 ≤ length ps) × AreBehind behind ps

-- so many parts stand behind a place of this one
abbrev pub with_place : Part → ℕ → List ℕ → List ℕ
with_place (text t) count behind = behind
with_place (wild n) count behind = set behind n count

-- a place in the pattern and in the text
pub record IsPlace (ps : List Part) (limits : List (Option Text)) (behind : List ℕ) (known : List Text) (rest : Text) : Type 0 where
  pub utf8 : IsUtf8 rest
  pub numbered : IsNumbered ps (length known) (length limits)
  pub places : AreBehind behind ps
