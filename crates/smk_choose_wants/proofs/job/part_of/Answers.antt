use Rattle.std.proofs.Common.{◌∙◌, option_map, sym, ap}
use Rattle.smk_choose_wants.proofs.Chosen.{rule_missing}
use Rattle.smk_choose_wants.proofs.job.part_of.Goals as goal

pub returns : goal.returns
returns c = sym c.part_at.ensures ∙ ap (option_map (λ r. r.now)) c.in-Some.is

pub unreachable-requires : goal.unreachable-requires
unreachable-requires c = rule_missing c.args.flow.now c.args.making.now c.requires (sym (ap (option_map (λ r. r.now)) c.in-None.is) ∙ c.part_at.ensures)
