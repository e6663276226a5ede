use Rattle.std.proofs.Common.{◌≡◌, ◌∙◌, ap, sym, false, List, [], map, flat_map}
use Rattle.smk_world.specs.declared.recipe.Item.{Item}
use Rattle.smk_world.specs.declared.recipe.Out.{Out}
use Rattle.smk_world.specs.declared.recipe.OutItem.{OutItem}
use Rattle.smk_world.specs.World.{in_paths}
use Rattle.smk_world.specs.Trees.{Path, among}
use Rattle.smk_flow.specs.declared.job.Gather.{Gather}
use Rattle.smk_plan.specs.States.{job_path}
use Rattle.smk_plan_states.specs.Lines.{gathered_of, output_of, temp_of}
use Rattle.smk_plan_states.specs.Rows.{lent}
use Rattle.smk_plan_states.specs.Ways.{inputs_by}
use Rattle.smk_plan_states.proofs.Awaiting.{map_twice}
use Rattle.smk_plan_states.proofs.LookUps.{inputs_are, outputs_flat}
use Rattle.smk_plan_states.proofs.making.line_of.Goals as goal

pub returns : goal.returns
returns c = λ J asked ways wants.
    let j = c.args.job.now in
    let fed = c.feeds-feeds.ensures J asked wants in
    let paths : lent c.as_slice-3.result.now ≡ in_paths j.recipe =
    ap lent c.as_slice-3.ensures ∙ c.in_ok-paths.ensures ∙ ap (flat_map (λ (item : Item). item.paths)) c.as_slice.ensures in
    let inputs =
    c.in_ok-inputs_in.ensures J ways
    ∙ (λ i. inputs_by J (c.name_of.ensures i) (λ p. false) (paths i))
    ∙ inputs_are J (job_path j) [] (in_paths j.recipe) in
    let gathers =
    c.in_ok-gathers_in.ensures J ways
    ∙ ap (map (λ (g : Gather). gathered_of J g.folder)) c.as_slice-4.ensures
    ∙ sym (map_twice (gathered_of J) (λ (g : Gather). g.folder) j.gathers) in
    let outputs =
    c.in_ok-outputs_in.ensures J asked j ways wants (record { temps_are = λ q. c.in_ok-temps.ensures q ∙ ap (λ (ps : List Path). among ps q) c.as_slice-2.ensures; fed_is = fed })
    ∙ ap (flat_map (λ (item : OutItem). map (λ (o : Out). output_of J asked j o.path) item.outs)) c.as_slice-5.ensures
    ∙ outputs_flat (output_of J asked j) j in
    let temps = c.in_ok-temps_in.ensures J asked ways wants ∙ ap (map (temp_of J asked)) c.as_slice-6.ensures in
    λ i. record { inputs = inputs i; gathers = gathers i; outputs = outputs i; temps = temps i; feeds = fed i }
