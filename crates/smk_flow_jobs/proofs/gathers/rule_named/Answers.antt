use Rattle.std.proofs.Common.{sym, ◌∙◌}
use Rattle.smk_flow_jobs.proofs.NumberFound.{number_within, number_rule, missing}
use Rattle.smk_flow_jobs.proofs.gathers.rule_named.Goals as goal

pub bounds-as_slice-number : goal.bounds-as_slice-number
bounds-as_slice-number c =
    number_within c.args.flow.now.rules c.as_slice.result.now c.in-Some.number c.args.name.now (c.as_slice.ensures ∙ c.rules.ensures.rules) (sym c.rule.ensures ∙ c.in-Some.is)

pub returns-in-Some : goal.returns-in-Some
returns-in-Some c =
    number_rule c.args.flow.now.rules c.as_slice.result.now c.in-Some.number c.args.name.now c.index-as_slice-number.result (c.as_slice.ensures ∙ c.rules.ensures.rules)
    (sym c.rule.ensures ∙ c.in-Some.is) c.index-as_slice-number.is

pub returns-in-None : goal.returns-in-None
returns-in-None c = sym (missing c.args.flow.now.rules 0 c.args.name.now (sym c.rule.ensures ∙ c.in-None.is))
