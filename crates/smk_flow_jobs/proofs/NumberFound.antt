-- The rule that has the number that is kept under a name.
use Rattle.std.proofs.Common.{◌≡◌, ℕ, zero, suc, ◌+◌, ◌<◌, List, [], ◌∷◌, map, length, get_or, Some, None, option_map, Bool, true, false, cond, refl, sym, ap, subst, ◌∙◌, arith, bytes_eq, slice_get}
use Rattle.std.specs.List.{find, enumerate_from}
use Rattle.smk_pattern.specs.Shapes.{Text}
use Rattle.smk_flow.specs.declared.rule.RulePart.{RulePart}
use Rattle.smk_flow.specs.declared.workflow.Rule.{Rule}
use Rattle.smk_flow.specs.Checks.{rule_in}
use Rattle.smk_flow.specs.Numbers.{number_from}
use Rattle.smk_flow.specs.PatternsOf.{rule_of}

-- the number is that of a rule, which is the one of this name
pub record IsFound (parts : List RulePart) (k n : ℕ) (name : Text) : Type 0 where
  pub m : ℕ
  pub place : n ≡ k + m
  pub within : m < length parts
  pub part : RulePart
  pub there : slice_get parts m ≡ Some part
  pub first : rule_in parts name ≡ Some part

pub found : (parts : List RulePart) (k n : ℕ) (name : Text) → number_from k parts name ≡ Some n → IsFound parts k n name
found [] k n name e = absurd (cc)
found (p ∷ ps) k n name e = go (bytes_eq p.name name) refl e (found ps (k + 1) n name)
  where
    go : (b : Bool) → bytes_eq p.name name ≡ b →
        option_map (λ (e : ℕ × RulePart). e.0) (cond b (Some (k, p)) (find (λ (e : ℕ × RulePart). bytes_eq e.1.name name) (enumerate_from (k + 1) ps))) ≡ Some n →
        (number_from (k + 1) ps name ≡ Some n → IsFound ps (k + 1) n name) → IsFound (p ∷ ps) k n name
    go true is e more =
        let same : k ≡ n = cc in
        record {
          m = zero;
          place = omega (arith, same);
          within = omega arith;
          part = p;
          there = refl;
          first = ap (λ (b : Bool). cond b (Some p) (rule_in ps name)) is;
        }
    go false is e more =
        let later = more e in
        record {
          m = suc later.m;
          place = omega (arith, later.place);
          within = omega (arith, later.within);
          part = later.part;
          there = later.there;
          first = ap (λ (b : Bool). cond b (Some p) (rule_in ps name)) is ∙ later.first;
        }

pub missing : (parts : List RulePart) (k : ℕ) (name : Text) → number_from k parts name ≡ None → rule_in parts name ≡ None
missing [] k name e = refl
missing (p ∷ ps) k name e = go (bytes_eq p.name name) refl e (missing ps (k + 1) name)
  where
    go : (b : Bool) → bytes_eq p.name name ≡ b →
        option_map (λ (e : ℕ × RulePart). e.0) (cond b (Some (k, p)) (find (λ (e : ℕ × RulePart). bytes_eq e.1.name name) (enumerate_from (k + 1) ps))) ≡ None →
        (number_from (k + 1) ps name ≡ None → rule_in ps name ≡ None) → rule_in (p ∷ ps) name ≡ None
    go true is e more = absurd (cc)
    go false is e more = ap (λ (b : Bool). cond b (Some p) (rule_in ps name)) is ∙ more e

rule_there : (parts : List RulePart) (n : ℕ) (part : RulePart) (d : Rule) → slice_get parts n ≡ Some part → get_or (map rule_of parts) n d ≡ rule_of part
rule_there [] n part d e = absurd (cc)
rule_there (p ∷ ps) zero part d e = let same : p ≡ part = cc in ap rule_of same
rule_there (p ∷ ps) (suc n) part d e = rule_there ps n part d e

-- the part of the rule that stands at this place
pub part_there : (parts : List RulePart) (rules : List Rule) (n : ℕ) (part : RulePart) (rule : Rule) → rules ≡ map rule_of parts → slice_get parts n ≡ Some part →
    rule ≡ get_or rules n rule → rule.part ≡ part
part_there parts rules n part rule are there at =
    ap (λ (r : Rule). r.part) (at ∙ ap (λ (rs : List Rule). get_or rs n rule) are ∙ rule_there parts n part rule there)

length_map : (parts : List RulePart) → length (map rule_of parts) ≡ length parts
length_map [] = refl
length_map (p ∷ ps) = ap suc (length_map ps)

pub number_within : (parts : List RulePart) (rules : List Rule) (n : ℕ) (name : Text) → rules ≡ map rule_of parts → number_from 0 parts name ≡ Some n → n < length rules
number_within parts rules n name are e =
    let f = found parts 0 n name e in
    let same : length rules ≡ length parts = ap length are ∙ length_map parts in
    omega (arith, f.place, f.within, same)

pub number_rule : (parts : List RulePart) (rules : List Rule) (n : ℕ) (name : Text) (rule : Rule) → rules ≡ map rule_of parts → number_from 0 parts name ≡ Some n →
    rule ≡ get_or rules n rule → Some rule.part ≡ rule_in parts name
number_rule parts rules n name rule are e at =
    let f = found parts 0 n name e in
    let same : f.m ≡ n = omega (arith, f.place) in
    ap (λ (p : RulePart). Some p) (part_there parts rules n f.part rule are (subst (λ (k : ℕ). slice_get parts k ≡ Some f.part) same f.there) at) ∙ sym f.first
