use Rattle.std.proofs.Common.{◌≡◌, take, map}
use Rattle.smk_plan.specs.States.{test_some}
use Rattle.smk_plan_states.specs.Spots.{spot_in, is_ready_spot}
use Rattle.smk_plan_states.proofs.ready.ready_in.Given as goal

abbrev pub invariant-loop-target : goal.invariant-loop-target
invariant-loop-target l = l.ready ≡ map (λ t. test_some (is_ready_spot l.ranks) (spot_in l.origins l.rows t.link)) (take l.target-index l.targets)
