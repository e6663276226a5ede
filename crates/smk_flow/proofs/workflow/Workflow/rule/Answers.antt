use Rattle.std.proofs.Common.{◌∙◌, sym, ap}
use Rattle.smk_flow.specs.Flows.{Flow, number_of}
use Rattle.smk_flow.proofs.Numbered.{place_is}
use Rattle.smk_flow.proofs.workflow.Workflow.rule.Goals as goal

pub returns-in-Some : goal.returns-in-Some
returns-in-Some c =
    let inside = c.self.inside in
    let name = c.args.name.now in
    sym c.in-Some.is ∙ c.get_index_of.ensures.index ∙ place_is inside.names.keys inside.rules name c.self.invariant.1.are ∙ ap (λ (flow : Flow). number_of flow name) c.self.view_is

pub returns-in-None : goal.returns-in-None
returns-in-None c =
    let inside = c.self.inside in
    let name = c.args.name.now in
    sym c.in-None.is ∙ c.get_index_of.ensures.index ∙ place_is inside.names.keys inside.rules name c.self.invariant.1.are ∙ ap (λ (flow : Flow). number_of flow name) c.self.view_is
