-- The default target among rules.
use Rattle.std.proofs.Common.{◌≡◌, ◌||◌, ◌&&◌, not, ℕ, Bool, true, false, cond, List, [], ◌∷◌, ◌++◌, map, refl, ap, sym, ◌∙◌, append_assoc}
use Rattle.std.specs.Prelude.{reverse}
use Rattle.std.specs.List.{list_any}
use Rattle.std.proofs.lemmas.List.{reverse-append}
use Rattle.smk_base.specs.declared.tree.Pair.{Pair}
use Rattle.smk_flow.specs.declared.rule.RulePart.{RulePart}
use Rattle.smk_flow.specs.declared.rule.Clause.{Clause}
use Rattle.smk_eval_rules.specs.Rules.{with_globals}
use Rattle.smk_eval.specs.Statements.{State, is_default, marked, stands_in, first_marked, with_default, flow_of}
use Rattle.smk_eval.specs.Marking.{marked_if}

-- the first of some rules
marks_first : (marks : Bool) (file : List ℕ) (part : RulePart) (parts : List RulePart) →
    marked_if marks file (part ∷ parts) ≡ marked (marks && stands_in file part) part ∷ marked_if (marks && not (marks && stands_in file part)) file parts
marks_first false file part parts = refl
marks_first true file part parts = by_test (stands_in file part)
  where
    by_test : (b : Bool) → cond b (marked true part ∷ parts) (part ∷ first_marked file parts) ≡ marked b part ∷ marked_if (not b) file parts
    by_test true = refl
    by_test false = refl

-- one more rule that is taken from the end
pub marks_next : (made new left all rest : List RulePart) (marks here after : Bool) (file : List ℕ) (part : RulePart) (item : RulePart) →
    left ≡ rest ++ part ∷ [] → here ≡ (marks && stands_in file part) → item ≡ marked here part → after ≡ (marks && not here) → new ≡ made ++ item ∷ []
    → made ++ marked_if marks file (reverse left) ≡ all → new ++ marked_if after file (reverse rest) ≡ all
marks_next made new left all rest marks here after file part item is e f g more h =
    let turned : reverse left ≡ part ∷ reverse rest = ap (λ (ps : List RulePart). reverse ps) is ∙ reverse-append rest (part ∷ []) in
    let last : here ≡ (marks && stands_in file part) → after ≡ (marks && not (marks && stands_in file part)) = λ same. g ∙ ap (λ b. marks && not b) same in
    ap (λ (ps : List RulePart). ps ++ marked_if after file (reverse rest)) (more ∙ ap (λ (x : RulePart). made ++ x ∷ []) (f ∙ ap (λ b. marked b part) e))
    ∙ append_assoc made (marked (marks && stands_in file part) part ∷ []) (marked_if after file (reverse rest))
    ∙ ap (λ b. made ++ (marked (marks && stands_in file part) part ∷ marked_if b file (reverse rest))) (last e)
    ∙ ap (λ (ps : List RulePart). made ++ ps) (sym (marks_first marks file part (reverse rest)) ∙ ap (marked_if marks file) (sym turned)) ∙ h

-- constraints mark nothing
any_default : (limits : List Pair) (parts : List RulePart) → list_any is_default (map (with_globals limits) parts) ≡ list_any is_default parts
any_default limits [] = refl
any_default limits (part ∷ parts) = ap (λ b. part.default_target || b) (any_default limits parts)

default_by : (b : Bool) (file : List ℕ) (parts : List RulePart) → cond b parts (first_marked file parts) ≡ marked_if (not b) file parts
default_by true file parts = refl
default_by false file parts = refl

said_is : (limits : List Pair) (file : List ℕ) (rules made said : List RulePart) (has marks : Bool) →
    has ≡ list_any is_default rules → marks ≡ not has → reverse made ≡ map (with_globals limits) rules → said ≡ marked_if marks file (reverse made)
    → with_default file (map (with_globals limits) rules) ≡ said
said_is limits file rules made said has marks h m limited is =
    let all = map (with_globals limits) rules in
    let none : not (list_any is_default all) ≡ marks = ap not (any_default limits rules ∙ sym h) ∙ sym m in
    default_by (list_any is_default all) file all ∙ ap (λ b. marked_if b file all) none ∙ ap (marked_if marks file) (sym limited) ∙ sym is

pub flow_is : (s : State) (file : List ℕ) (made said : List RulePart) (orders : List Clause) (has marks : Bool) →
    has ≡ list_any is_default s.rules → marks ≡ not has → reverse made ≡ map (with_globals s.limits) s.rules → said ≡ marked_if marks file (reverse made) → orders ≡ s.orders
    → flow_of file s ≡ record { rules = said; orders = orders }
flow_is s file made said orders has marks h m limited is same =
    λ i. record { rules = said_is s.limits file s.rules made said has marks h m limited is i; orders = sym same i }
