use Rattle.std.proofs.Common.{◌≡◌, map, drop}
use Rattle.std.specs.List.{list_any}
use Rattle.smk_world.specs.declared.recipe.Out.{Out}
use Rattle.smk_plan_table.specs.Parts.{is_marked_in}
use Rattle.smk_plan_table.proofs.suspects.has_marked.Given as goal

abbrev pub invariant-loop-out : goal.invariant-loop-out
invariant-loop-out g l =
    list_any (is_marked_in (g.T.Told.known l.told)) (map (λ (o : Out). o.path) l.outs)
    ≡ list_any (is_marked_in (g.T.Told.known l.told)) (map (λ (o : Out). o.path) (drop l.out-index l.outs))
