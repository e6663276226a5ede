use Rattle.std.proofs.Common.{◌≡◌, None, drop, zip}
use Rattle.smk_drive_pick.specs.Told.{best_from}
use Rattle.smk_drive_pick.specs.Grounds.{may_begin_by}
use Rattle.smk_drive_pick.proofs.next.best_of.Given as goal

abbrev pub invariant-loop-number : goal.invariant-loop-number
invariant-loop-number l =
    best_from (may_begin_by l.told l.room) l.number l.best (zip (drop l.number l.jobs) (drop l.number l.ranks))
    ≡ best_from (may_begin_by l.told l.room) 0 None (zip l.jobs l.ranks)
