-- How a pattern is written.
use Rattle.std.specs.Prelude.{◌≡◌, ℕ, zero, suc, ◌<◌, Bool, true, false, not, ◌&&◌, ◌||◌, ◌==◌, List, [], ◌∷◌, ◌++◌, length, map, Option, None, Some, if◌then◌else◌, slice_get}
use Rattle.std.specs.List.{list_all}
use Rattle.std.specs.Str.{bytes_eq}
use Rattle.std.specs.Int.{is_in_range}
use Rattle.smk_base.specs.declared.tree.Pair.{Pair}
use Rattle.smk_pattern.specs.Limits.{IsLimit}
use Rattle.smk_pattern.specs.Shapes.{Part, Wildcard, Shape, IsNumbered}
use Rattle.smk_pattern.specs.Shapes.Part.{text, wild}

-- a piece as it is written: text, or a wildcard with the constraint that stands in it
pub data Piece : Type 0 where
  plain : List ℕ → Piece
  hole : List ℕ → Option (List ℕ) → Piece

abbrev pub is_brace : ℕ → Bool
is_brace b = (b == 0x7B) || (b == 0x7D)

abbrev pub is_blank : ℕ → Bool
is_blank b = (b == 0x20) || (b == 0x09)

abbrev pub is_letter : ℕ → Bool
is_letter b = is_in_range 0x41 0x5A b || (is_in_range 0x61 0x7A b || (b == 0x5F))

abbrev pub is_name : List ℕ → Bool
is_name [] = false
is_name (b ∷ bs) = is_letter b && list_all (λ c. is_letter c || is_in_range 0x30 0x39 c) bs

-- each brace that is opened is closed, and no other one; so many are open before
abbrev pub is_balanced : ℕ → List ℕ → Bool
is_balanced zero [] = true
is_balanced (suc n) [] = false
is_balanced zero (b ∷ bs) = if b == 0x7B then is_balanced 1 bs else (not (b == 0x7D) && is_balanced zero bs)
is_balanced (suc n) (b ∷ bs) =
    if b == 0x7B then is_balanced (suc (suc n)) bs else (if b == 0x7D then is_balanced n bs else is_balanced (suc n) bs)

abbrev pub starts_with_blank : List ℕ → Bool
starts_with_blank [] = false
starts_with_blank (b ∷ bs) = is_blank b

-- a name between blanks
abbrev pub IsNamed : List ℕ → List ℕ → Type 0
IsNamed name bytes =
    (before : List ℕ) × (after : List ℕ) × (list_all is_blank before ≡ true) × (list_all is_blank after ≡ true) × (is_name name ≡ true)
    × (bytes ≡ before ++ name ++ after)

-- the bytes of a piece
abbrev pub Spells : Piece → List ℕ → Type 0
Spells (plain t) bytes = (bytes ≡ t) × (0 < length t) × (list_all (λ b. not (is_brace b)) t ≡ true)
Spells (hole name None) bytes = (inside : List ℕ) × IsNamed name inside × (bytes ≡ 0x7B ∷ (inside ++ 0x7D ∷ []))
Spells (hole name (Some limit)) bytes =
    (inside : List ℕ) × (blanks : List ℕ) × IsNamed name inside × (list_all is_blank blanks ≡ true)
    × (starts_with_blank limit ≡ false) × (is_balanced 0 limit ≡ true)
    × (bytes ≡ 0x7B ∷ (inside ++ 0x2C ∷ (blanks ++ limit ++ 0x7D ∷ [])))

abbrev pub is_plain : Piece → Bool
is_plain (plain t) = true
is_plain (hole name limit) = false

abbrev pub starts_plain : List Piece → Bool
starts_plain [] = false
starts_plain (p ∷ ps) = is_plain p

-- the pieces of a text; no two texts stand side by side
abbrev pub SpellsAll : List Piece → List ℕ → Type 0
SpellsAll [] bytes = bytes ≡ []
SpellsAll (p ∷ ps) bytes =
    ((is_plain p && starts_plain ps) ≡ false)
    × ((front : List ℕ) × (back : List ℕ) × Spells p front × SpellsAll ps back × (bytes ≡ front ++ back))

-- ---- from what is written to a pattern

-- the names so far, each once, and the parts
abbrev pub PartOf : List (List ℕ) → Piece → Part → Type 0
PartOf names (plain t) part = part ≡ text t
PartOf names (hole name limit) part = (n : ℕ) × (part ≡ wild n) × (slice_get names n ≡ Some name)

abbrev pub AllPartsOf : List (List ℕ) → List Piece → List Part → Type 0
AllPartsOf names [] parts = parts ≡ []
AllPartsOf names (p ∷ ps) parts = (q : Part) × (qs : List Part) × (parts ≡ q ∷ qs) × PartOf names p q × AllPartsOf names ps qs

-- the constraints that stand at a name in the text
abbrev pub inline_limits : List ℕ → List Piece → List (List ℕ)
inline_limits name [] = []
inline_limits name (plain t ∷ ps) = inline_limits name ps
inline_limits name (hole other None ∷ ps) = inline_limits name ps
inline_limits name (hole other (Some limit) ∷ ps) = if bytes_eq name other then limit ∷ inline_limits name ps else inline_limits name ps

abbrev pub given_limit : List ℕ → List Pair → Option (List ℕ)
given_limit name [] = None
given_limit name (l ∷ ls) = if bytes_eq name l.name then Some l.value else given_limit name ls

-- an inline constraint wins over one that is given
abbrev pub limit_for : List Pair → List ℕ → List (List ℕ) → Option (List ℕ)
limit_for given name [] = given_limit name given
limit_for given name (limit ∷ more) = Some limit

abbrev pub IsLimitIn : List Pair → List Piece → Wildcard → Type 0
IsLimitIn given pieces w = (w.limit ≡ limit_for given w.name (inline_limits w.name pieces)) × (length (inline_limits w.name pieces) < 2)

-- the text is a pattern, with these constraints for its names
pub record IsPattern (given : List Pair) (source : List ℕ) (is_path : List ℕ → Bool) (p : Shape) : Type 0 where
  pub pieces : List Piece
  pub spells : SpellsAll pieces source
  pub filled : 0 < length pieces
  pub parts : AllPartsOf (map (λ w. w.name) p.wildcards) pieces p.parts
  pub numbered : IsNumbered p.parts 0 (length p.wildcards)
  pub limits : (n : ℕ) (w : Wildcard) → slice_get p.wildcards n ≡ Some w → IsLimitIn given pieces w
  pub distinct : (m n : ℕ) (v w : Wildcard) → slice_get p.wildcards m ≡ Some v → slice_get p.wildcards n ≡ Some w → v.name ≡ w.name → m ≡ n
  pub path : length p.wildcards ≡ 0 → is_path source ≡ true
  pub read : (n : ℕ) (w : Wildcard) (l : List ℕ) → slice_get p.wildcards n ≡ Some w → w.limit ≡ Some l → IsLimit l
