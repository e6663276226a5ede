use Rattle.std.proofs.Common.{◌≡◌, map, take}
use Rattle.smk_plan_live.specs.Phases.{has_begun}
use Rattle.smk_plan_live.proofs.telling.begun_flags.Given as goal

abbrev pub invariant-loop-phase : goal.invariant-loop-phase
invariant-loop-phase l = l.found.items ≡ map has_begun (take l.phase-index l.phases)
