use Rattle.std.proofs.Common.{◌≡◌, drop, zip}
use Rattle.smk_drive_pick.specs.Spending.{need_all}
use Rattle.smk_drive_pick.proofs.spending.need_all.Given as goal

abbrev pub invariant-loop-i : goal.invariant-loop-i
invariant-loop-i l = need_all l.needed.items (zip (drop l.i l.lines) (drop l.i l.ranks)) ≡ need_all l.initial.needed.items (zip l.lines l.ranks)
