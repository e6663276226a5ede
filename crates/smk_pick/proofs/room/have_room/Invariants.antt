use Rattle.std.proofs.Common.{◌≡◌, drop}
use Rattle.std.specs.List.{list_all}
use Rattle.smk_pick.specs.Shares.{has_room}
use Rattle.smk_pick.proofs.room.have_room.Given as goal

abbrev pub invariant-loop-share : goal.invariant-loop-share
invariant-loop-share l = list_all (has_room l.asked) l.shares ≡ list_all (has_room l.asked) (drop l.share-index l.shares)
