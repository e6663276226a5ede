use Rattle.std.proofs.Common.{◌≡◌, ◌<◌, ◌++◌, List, length}
use Rattle.smk_world.specs.declared.recipe.Out.{Out}
use Rattle.smk_job.proofs.sight.path_of.Given as goal

abbrev pub invariant-loop-left : goal.invariant-loop-left
invariant-loop-left l = (l.at < length l.left) × ((rest : List Out) × (l.fn.outs ≡ l.left ++ rest))

abbrev pub decreases-loop-left : goal.decreases-loop-left
decreases-loop-left l = length l.left
