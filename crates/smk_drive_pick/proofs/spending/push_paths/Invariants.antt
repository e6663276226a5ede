use Rattle.std.proofs.Common.{◌≡◌, ◌++◌, drop, zip}
use Rattle.smk_drive_pick.specs.Spending.{ripe_paths}
use Rattle.smk_drive_pick.proofs.spending.push_paths.Given as goal

abbrev pub invariant-loop-i : goal.invariant-loop-i
invariant-loop-i l =
    l.found ++ ripe_paths l.live l.needed (zip (drop l.i l.paths) (drop l.i l.temps)) ≡ l.initial.found ++ ripe_paths l.live l.needed (zip l.paths l.temps)
