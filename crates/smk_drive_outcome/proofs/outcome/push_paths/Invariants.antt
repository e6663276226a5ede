use Rattle.std.proofs.Common.{◌≡◌, ◌++◌, map, take}
use Rattle.smk_world.specs.declared.recipe.Out.{Out}
use Rattle.smk_drive_outcome.proofs.outcome.push_paths.Given as goal

abbrev pub invariant-loop-out : goal.invariant-loop-out
invariant-loop-out l = l.found ≡ l.initial.found ++ map (λ (out : Out). out.path) (take l.out-index l.outs)
