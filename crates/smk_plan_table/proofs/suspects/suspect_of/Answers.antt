use Rattle.std.proofs.Common.{◌∙◌, map, sym, ap}
use Rattle.std.specs.List.{list_any}
use Rattle.smk_world.specs.declared.recipe.Out.{Out}
use Rattle.smk_world.specs.declared.recipe.OutItem.{OutItem}
use Rattle.smk_plan_table.specs.Parts.{above_in, is_guarded_in, is_marked_in}
use Rattle.smk_plan_table.proofs.Doubted.{any_paths}
use Rattle.smk_plan_table.proofs.suspects.suspect_of.Goals as goal

pub returns : goal.returns
returns g c =
    let outputs = c.args.job.now.recipe.outputs in
    let marked = is_marked_in (g.T.Told.known c.args.told.now) in
    let guarded = is_guarded_in (g.T.Told.seen c.args.told.now) in
    record {
      unmarked = λ e.
          sym (any_paths marked outputs) ∙ ap (list_any (λ (i : OutItem). list_any marked (map (λ (o : Out). o.path) i.outs))) (sym c.as_slice-outputs.ensures)
          ∙ sym c.is_marked-marked.ensures ∙ e;
      unguarded = λ e.
          sym (any_paths guarded outputs) ∙ ap (list_any (λ (i : OutItem). list_any guarded (map (λ (o : Out). o.path) i.outs))) (sym c.as_slice-outputs.ensures)
          ∙ sym c.is_in_the_way-guarded.ensures ∙ e;
      within = λ e. sym (ap (λ bs. above_in bs c.args.job.now) c.as_slice.ensures) ∙ c.is_above-above.ensures e;
    }
