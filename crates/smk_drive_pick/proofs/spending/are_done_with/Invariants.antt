use Rattle.std.proofs.Common.{◌≡◌, drop}
use Rattle.std.specs.List.{list_all}
use Rattle.smk_drive_pick.specs.Spending.{is_done_with}
use Rattle.smk_drive_pick.proofs.spending.are_done_with.Given as goal

abbrev pub invariant-loop-rank : goal.invariant-loop-rank
invariant-loop-rank l = list_all is_done_with l.ranks ≡ list_all is_done_with (drop l.rank-index l.ranks)
