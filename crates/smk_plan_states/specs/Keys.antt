-- Maps whose keys are lent texts.
use Rattle.std.specs.Prelude.{ℕ, Bool, List, Option, is_some}
use Rattle.std.specs.Borrow.{Bor}
use Rattle.std.specs.BTreeMap.{BTreeMap, get_by}
use Rattle.std.specs.Cmp.Lexicographic.{slice_cmp}
use Rattle.std.specs.Ordering.{nat_cmp}

-- what a map has under a text
abbrev pub at_key : {X : Type 0} → BTreeMap (Bor (List ℕ)) X → List ℕ → Option X
at_key map q = get_by (λ k. slice_cmp nat_cmp q k.now) map

-- the map has the text
abbrev pub has_key : {X : Type 0} → BTreeMap (Bor (List ℕ)) X → List ℕ → Bool
has_key map q = is_some (at_key map q)
