use Rattle.std.proofs.Common.{◌≡◌, ◌-◌, true, length, take}
use Rattle.std.specs.List.{list_all}
use Rattle.smk_core.specs.Standing.{stands, is_done}
use Rattle.smk_core.proofs.jobs.passed_over.Given as goal

abbrev pub invariant-loop-at : goal.invariant-loop-at
invariant-loop-at l = list_all (stands is_done l.phases) (take l.at l.befores) ≡ true

abbrev pub decreases-loop-at : goal.decreases-loop-at
decreases-loop-at l = length l.befores - l.at
