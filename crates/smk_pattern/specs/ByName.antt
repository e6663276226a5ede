-- What is kept by name.
use Rattle.std.specs.Prelude.{◌≡◌, ℕ, ◌≤◌, ◌==◌, List, [], ◌∷◌, ◌++◌, length, Bool, true, false, Option, Some, None, option_map, if◌then◌else◌}
use Rattle.std.specs.Borrow.{Bor}
use Rattle.std.specs.BTreeMap.{BTreeMap, get_by}
use Rattle.std.specs.Cmp.Lexicographic.{slice_cmp}
use Rattle.std.specs.Ordering.{nat_cmp}
use Rattle.smk_pattern.specs.declared.by_name.Names.{Names}
use Rattle.smk_pattern.specs.Shapes.{Text}
use Rattle.smk_pattern.specs.Grammar.{Piece, inline_limits}
use Rattle.smk_pattern.specs.Reading.{place_of}
use Rattle.smk_pattern.specs.Searching.{now_of}

-- the place that is kept under a name
abbrev pub place_at : BTreeMap (Bor Text) ℕ → Text → Option ℕ
place_at places name = get_by (λ k. slice_cmp nat_cmp name k.now) places

-- the text that is kept under a name
abbrev pub text_at : BTreeMap (Bor Text) (Bor Text) → Text → Option Text
text_at texts name = option_map (λ (t : Bor Text). t.now) (get_by (λ k. slice_cmp nat_cmp name k.now) texts)

-- where the name stands among these, if it does
abbrev pub found_place : Text → List Text → Option ℕ
found_place name names = if place_of name names == length names then None else Some (place_of name names)

-- just these names are kept, each once, in order
pub record AreNames (kept : Names) (names : List Text) : Type 0 where
  pub list : now_of kept.list.items ≡ names
  pub at : (name : Text) → place_at kept.places name ≡ found_place name names

abbrev pub first_of : List Text → Option Text
first_of [] = None
first_of (t ∷ ts) = Some t

-- the first text, or else the second
abbrev pub or_text : Option Text → Option Text → Option Text
or_text None b = b
or_text (Some t) b = Some t

-- under each name its constraint in these pieces is kept, and no name has two
pub record AreInline (texts : BTreeMap (Bor Text) (Bor Text)) (ps : List Piece) : Type 0 where
  pub at : (name : Text) → text_at texts name ≡ first_of (inline_limits name ps)
  pub single : (name : Text) → length (inline_limits name ps) ≤ 1

-- the constraint of one more piece is kept, or some name has two
abbrev pub AddsInline : Bool → BTreeMap (Bor Text) (Bor Text) → List Piece → Piece → Type 0
AddsInline true texts ps p = AreInline texts (ps ++ p ∷ [])
AddsInline false texts ps p = (name : Text) × (2 ≤ length (inline_limits name (ps ++ p ∷ [])))
