-- Rules found by their names.
use Rattle.std.proofs.Common.{◌≡◌, ℕ, zero, suc, ◌+◌, ◌<◌, Bool, true, false, cond, List, [], ◌∷◌, map, get_or, length, bytes_eq, Option, Some, None, option_map, refl, sym, ap, ◌∙◌, arith, slice_get}
use Rattle.std.specs.List.{find, enumerate_from}
use Rattle.smk_pattern.specs.Shapes.{Text}
use Rattle.smk_flow.specs.declared.rule.RulePart.{RulePart}
use Rattle.smk_flow.specs.declared.workflow.Rule.{Rule}
use Rattle.smk_flow.specs.PatternsOf.{rule_of}

abbrev pub number : ℕ → List RulePart → Text → Option ℕ
number n rules name = option_map (λ (e : ℕ × RulePart). e.0) (find (λ (e : ℕ × RulePart). bytes_eq e.1.name name) (enumerate_from n rules))

abbrev pub named : List RulePart → Text → Option RulePart
named rules name = find (λ (r : RulePart). bytes_eq r.name name) rules

-- a rule that is found has its place among the rules
abbrev pub IsPlace : List RulePart → ℕ → ℕ → Text → Type 0
IsPlace rules n k name = (j : ℕ) × (k ≡ n + j) × (j < length rules) × (named rules name ≡ slice_get rules j)

pub number_place : (rules : List RulePart) (n k : ℕ) (name : Text) → number n rules name ≡ Some k → IsPlace rules n k name
number_place [] n k name e = absurd (none k e)
  where
    none : (k : ℕ) → None ≡ Some k → ⊥
    none k e = cc
number_place (r ∷ rs) n k name e = go (bytes_eq r.name name) refl e (number_place rs (n + 1) k name)
  where
    inner : (a b : ℕ) → Some a ≡ Some b → a ≡ b
    inner a b e = cc

    go : (b : Bool) → bytes_eq r.name name ≡ b →
        option_map (λ (e : ℕ × RulePart). e.0) (cond b (Some (n, r)) (find (λ (e : ℕ × RulePart). bytes_eq e.1.name name) (enumerate_from (n + 1) rs))) ≡ Some k →
        (number (n + 1) rs name ≡ Some k → IsPlace rs (n + 1) k name) → IsPlace (r ∷ rs) n k name
    go true same e more = (0, omega (arith, inner n k e), omega arith, ap (λ b. cond b (Some r) (named rs name)) same)
    go false same e more =
        let place = more e in
        (suc place.0, omega (arith, place.1), omega (arith, place.2), ap (λ b. cond b (Some r) (named rs name)) same ∙ place.3)

pub number_none : (rules : List RulePart) (n : ℕ) (name : Text) → number n rules name ≡ None → named rules name ≡ None
number_none [] n name e = refl
number_none (r ∷ rs) n name e = go (bytes_eq r.name name) refl e (number_none rs (n + 1) name)
  where
    some : (k : ℕ) → Some k ≡ None → ⊥
    some k e = cc

    go : (b : Bool) → bytes_eq r.name name ≡ b →
        option_map (λ (e : ℕ × RulePart). e.0) (cond b (Some (n, r)) (find (λ (e : ℕ × RulePart). bytes_eq e.1.name name) (enumerate_from (n + 1) rs))) ≡ None →
        (number (n + 1) rs name ≡ None → named rs name ≡ None) → named (r ∷ rs) name ≡ None
    go true same e more = absurd (some n e)
    go false same e more = ap (λ b. cond b (Some r) (named rs name)) same ∙ more e

pub rule_found : (rules : List RulePart) (n : ℕ) (found : Rule) → n < length rules → found ≡ get_or (map rule_of rules) n found → slice_get rules n ≡ Some found.part
rule_found [] n found lt at = absurd (omega (arith, lt))
rule_found (r ∷ rules) zero found lt at = ap (λ (f : Rule). Some f.part) (sym at)
rule_found (r ∷ rules) (suc n) found lt at = rule_found rules n found (omega (arith, lt)) at
