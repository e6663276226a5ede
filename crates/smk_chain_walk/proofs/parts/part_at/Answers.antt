use Rattle.std.proofs.Common.{◌∙◌}
use Rattle.smk_chain_walk.proofs.parts.part_at.Goals as goal
use Rattle.smk_choose_wants.proofs.Chosen.{part_found, part_lacking}

pub returns-in-Some : goal.returns-in-Some
returns-in-Some c =
    part_found c.args.flow.now.rules c.as_slice.result.now c.args.rule c.in-Some.rule.now (c.as_slice.ensures ∙ c.rules.ensures.rules) c.in-Some.ensures.lookup.0
    c.in-Some.ensures.lookup.1

pub returns-in-None : goal.returns-in-None
returns-in-None c = part_lacking c.args.flow.now.rules c.as_slice.result.now c.args.rule (c.as_slice.ensures ∙ c.rules.ensures.rules) c.in-None.ensures.lookup.0
