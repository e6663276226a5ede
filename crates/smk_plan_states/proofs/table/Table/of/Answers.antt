use Rattle.std.proofs.Common.{◌≡◌, ◌∙◌, ◌++◌, ap, sym, List, map, flat_map}
use Rattle.std.specs.List.{list_any}
use Rattle.smk_world.specs.declared.recipe.Item.{Item}
use Rattle.smk_world.specs.World.{in_paths}
use Rattle.smk_world.specs.Trees.{Path, among}
use Rattle.smk_flow.specs.declared.job.Job.{Job}
use Rattle.smk_chain.specs.Derive.{distinct}
use Rattle.smk_plan_states.specs.declared.lines.Awaited.{Awaited}
use Rattle.smk_plan_states.specs.Lines.{line_of, origin_of, target_of, is_told_source, over_spots, job_spots, all_spots}
use Rattle.smk_plan_states.specs.Tables.{same_path}
use Rattle.smk_plan_states.specs.Ways.{AreWants}
use Rattle.smk_laws_plan.proofs.PlanStates.{any_same}
use Rattle.smk_plan_states.proofs.Tests.{among_flat}
use Rattle.smk_plan_states.proofs.table.Table.of.Goals as goal

pub returns : goal.returns
returns c =
    let J = c.args.jobs.now in
    let asked = c.args.targets.now in
    let ways = c.in_ok-ways.ensures in
    let spots : c.in_ok-spots.spots ≡ all_spots J asked =
    c.in_ok-spots.ensures J ways ∙ (λ i. flat_map (job_spots J) (c.as_slice.ensures i) ++ flat_map (over_spots J) (c.as_slice-2.ensures i)) in
    let wants : AreWants J asked _ =
    record {
      targets = λ q. c.in_ok-set_of.ensures q ∙ ap (λ (ps : List Path). among ps q) c.as_slice-3.ensures;
      awaited = λ q. c.in_ok-spot_paths.ensures q ∙ ap (λ (xs : List Awaited). among (map (λ (a : Awaited). a.path) xs) q) (c.as_slice-4.ensures ∙ spots);
      read = λ q. c.in_ok-read_in.ensures q
          ∙ ap (list_any (λ (j : Job). list_any (λ (item : Item). among item.paths q) j.recipe.inputs)) c.as_slice-5.ensures
          ∙ any_same (λ (j : Job). list_any (λ (item : Item). among item.paths q) j.recipe.inputs) (λ (j : Job). among (in_paths j.recipe) q) J.jobs
          (λ j i. sym (among_flat (λ (item : Item). item.paths) j.recipe.inputs q));
    } in
    record {
      lines = c.in_ok-table.ensures.lines ∙ c.in_ok-lines.ensures J asked ways wants ∙ ap (map (line_of J asked)) c.as_slice-7.ensures;
      origins = c.in_ok-table.ensures.origins ∙ c.in_ok-origins.ensures J ways ∙ ap (map (origin_of J.jobs)) c.as_slice-8.ensures;
      targets = c.in_ok-table.ensures.targets ∙ c.in_ok-asked.ensures J ways (λ q. c.in_ok-sources.ensures q ∙ ap (list_any (is_told_source J q)) c.as_slice-6.ensures) ∙ ap (map (target_of J)) c.as_slice-9.ensures;
      awaited = c.in_ok-table.ensures.awaited ∙ c.in_ok-awaited.ensures ∙ ap (distinct same_path) (c.as_slice-10.ensures ∙ spots);
      watched = c.in_ok-table.ensures.watched;
    }
