use Rattle.std.proofs.Common.{◌≡◌, ◌∙◌, List, ℕ, option_map, sym, ap, subst}
use Rattle.std.specs.Prelude.{IfOk, Option}
use Rattle.smk_pattern.specs.Reading.{or_empty}
use Rattle.smk_flow.specs.declared.rule.RulePart.{RulePart}
use Rattle.smk_chain_walk.proofs.RuleAt.{name_at}
use Rattle.smk_chain_walk.proofs.faults.name_of.Goals as goal

abbrev named : Option RulePart → List ℕ
named o = or_empty (option_map (λ (r : RulePart). r.name) o)

pub returns-in-Some : goal.returns-in-Some
returns-in-Some c =
    subst (λ (t : List ℕ). IfOk c.copy.result (λ text. text ≡ t))
    (ap named (sym (ap (option_map (λ r. r.now)) c.in-Some.is) ∙ c.part_at.ensures) ∙ sym (name_at c.args.flow.now c.args.rule)) c.copy.ensures

pub returns-in-None : goal.returns-in-None
returns-in-None c =
    subst (λ (t : List ℕ). IfOk c.of.result (λ text. text ≡ t))
    (ap named (sym (ap (option_map (λ r. r.now)) c.in-None.is) ∙ c.part_at.ensures) ∙ sym (name_at c.args.flow.now c.args.rule)) c.of.ensures
