use Rattle.std.proofs.Common.{◌≡◌, ◌++◌, drop, zip}
use Rattle.smk_drive_pick.specs.Spending.{ripe_in}
use Rattle.smk_drive_pick.proofs.spending.ripe_in.Given as goal

abbrev pub invariant-loop-i : goal.invariant-loop-i
invariant-loop-i l =
    l.found ++ ripe_in l.live l.needed (zip (drop l.i l.jobs) (zip (drop l.i l.lines) (drop l.i l.ranks)))
    ≡ ripe_in l.live l.needed (zip l.jobs (zip l.lines l.ranks))
