use Rattle.std.proofs.Common.{◌≡◌, ◌+◌, drop}
use Rattle.smk_pick.specs.Rooms.{amount}
use Rattle.smk_pick.proofs.room.amount_of.Given as goal

abbrev pub invariant-loop-each : goal.invariant-loop-each
invariant-loop-each l = l.sum + amount (drop l.each-index l.amounts) l.name ≡ amount l.amounts l.name
