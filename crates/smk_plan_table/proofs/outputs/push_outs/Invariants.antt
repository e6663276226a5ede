use Rattle.std.proofs.Common.{◌≡◌, ◌++◌, map, take}
use Rattle.smk_world.specs.declared.recipe.Out.{Out}
use Rattle.smk_plan_table.specs.Parts.{shown}
use Rattle.smk_plan_table.proofs.outputs.push_outs.Given as goal

abbrev pub invariant-loop-out : goal.invariant-loop-out
invariant-loop-out l = shown l.found.items ≡ shown l.initial.found.items ++ map (λ (o : Out). o.path) (take l.out-index l.outs)
