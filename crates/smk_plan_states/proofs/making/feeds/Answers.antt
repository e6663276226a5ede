use Rattle.std.proofs.Common.{◌∙◌, ap}
use Rattle.std.specs.List.{list_any}
use Rattle.std.specs.BTreeSet.{contains_text}
use Rattle.smk_world.specs.declared.recipe.Out.{Out}
use Rattle.smk_world.specs.declared.recipe.OutItem.{OutItem}
use Rattle.smk_world.specs.Trees.{among}
use Rattle.smk_plan_states.specs.Lines.{awaited_paths}
use Rattle.smk_plan_states.proofs.LookUps.{outputs_any}
use Rattle.smk_plan_states.proofs.making.feeds.Goals as goal

pub returns : goal.returns
returns c = λ J asked wants.
    c.any_item_awaited.ensures
    ∙ ap (list_any (λ (item : OutItem). list_any (λ (o : Out). contains_text c.args.wants.now.awaited o.path) item.outs)) c.as_slice.ensures
    ∙ (λ i. list_any (λ (item : OutItem). list_any (λ (o : Out). wants.awaited o.path i) item.outs) c.args.job.now.recipe.outputs)
    ∙ outputs_any (among (awaited_paths J asked)) c.args.job.now
