use Rattle.std.proofs.Common.{◌≡◌, ◌++◌, drop, map, zip}
use Rattle.smk_laws_turns.specs.Resting.{looked_as}
use Rattle.smk_drive_hub.proofs.learning.looked_states.Given as goal

abbrev pub invariant-loop-number : goal.invariant-loop-number
invariant-loop-number l = l.looked ++ map looked_as (zip (drop l.number l.states) (drop l.number l.phases)) ≡ map looked_as (zip l.states l.phases)
