use Rattle.std.proofs.Common.{◌≡◌, ◌∙◌, List, ap, ap₂, sym, subst, IfOk}
use Rattle.smk_world.specs.World.{folders_above}
use Rattle.smk_flow.specs.declared.workflow.Rule.{Rule}
use Rattle.smk_choose.specs.declared.choice.Making.{Making}
use Rattle.smk_choose.specs.declared.readings.Reading.{Reading}
use Rattle.smk_choose.specs.Index.{IsIndex}
use Rattle.smk_choose.specs.Readings.{or_others, members_from, outputs_from}
use Rattle.smk_choose.proofs.Listed.{fitting_listed}
use Rattle.smk_choose.proofs.index.Readings.fitting.Goals as goal

pub makings-requires-clause-outputs : goal.makings-requires-clause-outputs
makings-requires-clause-outputs c =
    subst (λ (rs : List Rule). IsIndex rs c.args.self.now.index) (sym (c.as_slice.ensures ∙ c.rules.ensures.rules)) c.requires.outputs

pub returns : goal.returns
returns c =
    let rules = c.as_slice.ensures ∙ c.rules.ensures.rules in
    let same =
    ap₂ or_others (ap (λ (rs : List Reading). members_from 0 rs (folders_above c.args.path.now)) c.requires.rules) (ap (λ (rs : List Rule). outputs_from 0 rs c.args.path.now) rules)
    ∙ sym (fitting_listed c.args.flow.now c.args.path.now) in
    subst (λ (ms : List Making). IfOk c.makings.result (λ found. found.items ≡ ms)) same c.makings.ensures
