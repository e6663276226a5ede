use Rattle.std.proofs.Common.{◌≡◌, take}
use Rattle.smk_pick.proofs.room.copies.Given as goal

abbrev pub invariant-loop-share : goal.invariant-loop-share
invariant-loop-share l = l.made.items ≡ take l.share-index l.shares
