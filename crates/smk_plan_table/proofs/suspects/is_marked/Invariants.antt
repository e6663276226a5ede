use Rattle.std.proofs.Common.{◌≡◌, map, drop}
use Rattle.std.specs.List.{list_any}
use Rattle.smk_world.specs.declared.recipe.Out.{Out}
use Rattle.smk_world.specs.declared.recipe.OutItem.{OutItem}
use Rattle.smk_plan_table.specs.Parts.{is_marked_in}
use Rattle.smk_plan_table.proofs.suspects.is_marked.Given as goal

abbrev pub invariant-loop-item : goal.invariant-loop-item
invariant-loop-item g l =
    list_any (λ (i : OutItem). list_any (is_marked_in (g.T.Told.known l.told)) (map (λ (o : Out). o.path) i.outs)) l.outputs
    ≡ list_any (λ (i : OutItem). list_any (is_marked_in (g.T.Told.known l.told)) (map (λ (o : Out). o.path) i.outs)) (drop l.item-index l.outputs)
