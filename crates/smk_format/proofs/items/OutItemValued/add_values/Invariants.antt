use Rattle.std.proofs.Common.{◌≡◌, ◌++◌, take, map}
use Rattle.smk_world.specs.declared.recipe.Out.{Out}
use Rattle.smk_pattern.specs.Searching.{now_of}
use Rattle.smk_format.proofs.items.OutItemValued.add_values.Given as goal

abbrev pub invariant-loop-out : goal.invariant-loop-out
invariant-loop-out l = now_of l.values.items ≡ now_of l.initial.values.items ++ map (λ (o : Out). o.path) (take l.out-index l.out-items)
