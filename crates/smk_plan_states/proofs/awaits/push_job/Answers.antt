use Rattle.std.proofs.Common.{◌∙◌, ◌++◌, List, map, flat_map, ap}
use Rattle.smk_world.specs.declared.recipe.Item.{Item}
use Rattle.smk_flow.specs.declared.job.Gather.{Gather}
use Rattle.smk_plan_states.specs.Lines.{gathered_spot, over_spots}
use Rattle.smk_plan_states.proofs.LookUps.{spots_more}
use Rattle.smk_plan_states.proofs.awaits.push_job.Goals as goal

pub returns : goal.returns
returns c = λ J ways.
    spots_more J c.args.job.now c.args.found.now c.push_gathers.new.found c.push_items_over.new.found c.push_gathers_over.new.found
    (c.in_ok-push_gathers.ensures J ways ∙ ap (λ (gs : List Gather). c.args.found.now ++ map (λ (g : Gather). gathered_spot J g.folder) gs) c.as_slice.ensures)
    (c.in_ok-push_items_over.ensures J ways ∙ ap (λ (is : List Item). c.push_gathers.new.found ++ flat_map (λ (item : Item). flat_map (over_spots J) item.paths) is) c.as_slice-2.ensures)
    (c.in_ok-push_gathers_over.ensures J ways ∙ ap (λ (gs : List Gather). c.push_items_over.new.found ++ flat_map (λ (g : Gather). over_spots J g.folder) gs) c.as_slice-3.ensures)
