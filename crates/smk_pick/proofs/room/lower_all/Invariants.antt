use Rattle.std.proofs.Common.{◌≡◌, ◌++◌, map, take, drop}
use Rattle.smk_pick.specs.Shares.{lowered}
use Rattle.smk_pick.proofs.room.lower_all.Given as goal

abbrev pub invariant-loop-i : goal.invariant-loop-i
invariant-loop-i l = l.shares.items ≡ map (lowered l.asked) (take l.i l.initial.shares.items) ++ drop l.i l.initial.shares.items
