use Rattle.std.proofs.Common.{◌≡◌, map, take}
use Rattle.smk_world.specs.declared.recipe.Out.{Out}
use Rattle.smk_job.proofs.reserve.paths_of.Given as goal

abbrev pub invariant-loop-out : goal.invariant-loop-out
invariant-loop-out l = l.paths ≡ map (λ (out : Out). out.path) (take l.out-index l.outs)
