-- What a pattern is.
use Rattle.std.specs.Prelude.{◌≡◌, ◌⊎◌, ◌<◌, ◌+◌, ℕ, List, [], ◌∷◌, Option, IsUtf8}

-- a text, as its bytes
abbrev pub Text : Type 0
Text = List ℕ

-- a piece of a pattern: a text, or a wildcard by its number
pub data Part : Type 0 where
  text : Text → Part
  wild : ℕ → Part

-- A wildcard, by its name, and its constraint. Wildcards have numbers in the order in which they first stand.
pub record Wildcard : Type 0 where
  pub name : Text
  pub limit : Option Text

pub record Shape : Type 0 where
  pub parts : List Part
  pub wildcards : List Wildcard

-- The numbers are in the order in which the wildcards first stand: so many have one before these parts, and so many in all.
abbrev pub IsNumbered : List Part → ℕ → ℕ → Type 0
IsNumbered [] known all = known ≡ all
IsNumbered (text t ∷ ps) known all = IsNumbered ps known all
IsNumbered (wild n ∷ ps) known all =
    ((n < known) × IsNumbered ps known all) ⊎ ((n ≡ known) × (known < all) × IsNumbered ps (known + 1) all)

-- each text of these parts is UTF-8
abbrev pub AreTexts : List Part → Type 0
AreTexts [] = Unit {0}
AreTexts (text t ∷ ps) = IsUtf8 t × AreTexts ps
AreTexts (wild n ∷ ps) = AreTexts ps
