-- What stands behind references.
use Rattle.std.specs.Prelude.{ℕ, Bool, List, map, is_some}
use Rattle.std.specs.Borrow.{Bor}
use Rattle.std.specs.BTreeMap.{BTreeMap, get_by}
use Rattle.std.specs.Cmp.Lexicographic.{slice_cmp}
use Rattle.std.specs.Ordering.{nat_cmp}
use Rattle.smk_base.specs.declared.tree.Pair.{Pair}

-- something is kept under the name
abbrev pub holds : BTreeMap (Bor (List ℕ)) (Bor Pair) → List ℕ → Bool
holds kept name = is_some (get_by (λ k. slice_cmp nat_cmp name k.now) kept)

abbrev pub all_lent : List (Bor Pair) → List Pair
all_lent = map (λ p. p.now)
