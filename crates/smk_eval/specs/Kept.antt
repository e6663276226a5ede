-- Rules and values that are kept by name.
use Rattle.std.specs.Prelude.{◌≡◌, ◌<◌, ℕ, List, length, bytes_eq, if◌then◌else◌, Option, Some, None, slice_get}
use Rattle.std.specs.Option.{option_and_then, option_or}
use Rattle.std.specs.Borrow.{Bor}
use Rattle.std.specs.BTreeMap.{BTreeMap, get_by, get_by_text}
use Rattle.std.specs.Prelude.{String}
use Rattle.std.specs.Cmp.Lexicographic.{slice_cmp}
use Rattle.std.specs.Ordering.{nat_cmp}
use Rattle.smk_flow.specs.declared.rule.RulePart.{RulePart}
use Rattle.smk_flow.specs.Checks.{rule_in}

-- what a map has under a name
abbrev pub kept : {X : Type 0} → BTreeMap (Bor (List ℕ)) X → List ℕ → Option X
kept map q = get_by (λ k. slice_cmp nat_cmp q k.now) map

-- the same by texts
abbrev pub kept_text : {X Y : Type 0} → BTreeMap (String Y) X → List ℕ → Option X
kept_text map q = get_by_text map q

-- with a place under a name, unless one is there
abbrev pub with_place : (List ℕ → Option ℕ) → List ℕ → ℕ → List ℕ → Option ℕ
with_place look name place q = option_or (look q) (if bytes_eq name q then Some place else None)

-- the rule at the place that is kept under a name
abbrev pub rule_placed : {Y : Type 0} → BTreeMap (String Y) ℕ → List RulePart → List ℕ → Option RulePart
rule_placed places parts q = option_and_then (λ (i : ℕ). slice_get parts i) (kept_text places q)

-- The places are those of the first rules of each name.
pub record ArePlaced {Y : Type 0} (places : BTreeMap (String Y) ℕ) (parts : List RulePart) : Type 0 where
  pub are : (q : List ℕ) → rule_placed places parts q ≡ rule_in parts q
  pub within : (q : List ℕ) (i : ℕ) → kept_text places q ≡ Some i → i < length parts
