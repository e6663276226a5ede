use Rattle.std.proofs.Common.{◌∙◌, option_map, sym, ap}
use Rattle.std.specs.Prelude.{is_some}
use Rattle.smk_flow.specs.declared.rule.RulePart.{RulePart}
use Rattle.smk_choose.proofs.Picked.{chosen_placed}
use Rattle.smk_chain_walk.proofs.Taken.{part_taken, none_taken}
use Rattle.smk_chain_walk.proofs.stepping.has_command.Goals as goal

pub returns-in-Some : goal.returns-in-Some
returns-in-Some c = λ sources p d e is.
    c.is_some.ensures
    ∙ ap (λ (r : RulePart). is_some r.command)
    (part_taken c.args.flow.now c.args.making.now d c.in-Some.part.now (sym (ap (option_map (λ r. r.now)) c.in-Some.is) ∙ c.part_at.ensures) is (chosen_placed c.args.flow.now sources p d e))

pub returns-in-None : goal.returns-in-None
returns-in-None c = λ sources p d e is.
    absurd (none_taken c.args.flow.now c.args.making.now d (sym (ap (option_map (λ r. r.now)) c.in-None.is) ∙ c.part_at.ensures) is (chosen_placed c.args.flow.now sources p d e))
