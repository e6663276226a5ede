use Rattle.std.proofs.Common.{◌≡◌, [], map, take}
use Rattle.smk_pick.specs.Shares.{share_of}
use Rattle.smk_pick.proofs.room.shares_of.Given as goal

abbrev pub invariant-loop-bound : goal.invariant-loop-bound
invariant-loop-bound l = l.shares.items ≡ map (share_of []) (take l.bound-index l.bounds)
