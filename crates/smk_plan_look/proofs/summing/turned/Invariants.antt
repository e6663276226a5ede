use Rattle.std.proofs.Common.{◌≡◌, ◌++◌, length}
use Rattle.std.specs.Prelude.{reverse}
use Rattle.smk_plan_look.proofs.summing.turned.Given as goal

abbrev pub invariant-sights : goal.invariant-sights
invariant-sights l = l.found ++ reverse l.left ≡ reverse l.fn.sights

abbrev pub decreases-sights : goal.decreases-sights
decreases-sights l = length l.left
