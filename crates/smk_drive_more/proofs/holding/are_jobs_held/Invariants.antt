use Rattle.std.proofs.Common.{◌≡◌, drop, zip}
use Rattle.std.specs.List.{list_all}
use Rattle.smk_laws_turns.specs.Growing.{is_held}
use Rattle.smk_drive_more.proofs.holding.are_jobs_held.Given as goal

abbrev pub invariant-loop-number : goal.invariant-loop-number
invariant-loop-number g l =
    list_all (is_held (g.T.Told.known l.told)) (zip l.jobs l.began)
    ≡ list_all (is_held (g.T.Told.known l.told)) (zip (drop l.number l.jobs) (drop l.number l.began))
