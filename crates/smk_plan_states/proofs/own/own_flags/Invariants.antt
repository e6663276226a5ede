use Rattle.std.proofs.Common.{◌≡◌, map, take}
use Rattle.smk_plan_states.specs.Rows.{own_of}
use Rattle.smk_plan_states.proofs.own.own_flags.Given as goal

abbrev pub invariant-loop-own : goal.invariant-loop-own
invariant-loop-own l = l.flags.items ≡ map own_of (take l.own-index l.reasons)
