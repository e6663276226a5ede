-- Rules by their numbers.
use Rattle.std.proofs.Common.{◌≡◌, ◌∙◌, ℕ, zero, suc, ◌+◌, true, false, cond, List, [], ◌∷◌, Some, option_map, refl, ap, arith}
use Rattle.std.specs.Prelude.{slice_get, nat_eq}
use Rattle.std.specs.List.{find, enumerate_from}
use Rattle.smk_pattern.specs.Reading.{or_empty}
use Rattle.smk_flow.specs.declared.rule.RulePart.{RulePart}
use Rattle.smk_flow.specs.Flows.{Flow, rule_name}

named_at : (rules : List RulePart) (k n m : ℕ) → m ≡ k + n → option_map (λ (e : ℕ × RulePart). e.1) (find (λ (e : ℕ × RulePart). nat_eq e.0 m) (enumerate_from k rules)) ≡ slice_get rules n
named_at [] k n m e = refl
named_at (r ∷ rules) k zero m e = ap (λ b. option_map (λ (x : ℕ × RulePart). x.1) (cond b (Some (k, r)) (find (λ (x : ℕ × RulePart). nat_eq x.0 m) (enumerate_from (k + 1) rules)))) same
  where
    same : nat_eq k m ≡ true
    same = grind arith
named_at (r ∷ rules) k (suc n) m e =
    ap (λ b. option_map (λ (x : ℕ × RulePart). x.1) (cond b (Some (k, r)) (find (λ (x : ℕ × RulePart). nat_eq x.0 m) (enumerate_from (k + 1) rules)))) other
    ∙ named_at rules (k + 1) n m (omega arith)
  where
    other : nat_eq k m ≡ false
    other = grind arith

pub name_at : (flow : Flow) (n : ℕ) → rule_name flow n ≡ or_empty (option_map (λ (r : RulePart). r.name) (slice_get flow.rules n))
name_at flow n = ap (λ o. or_empty (option_map (λ (r : RulePart). r.name) o)) (named_at flow.rules 0 n n (omega arith))
