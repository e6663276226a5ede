use Rattle.std.proofs.Common.{◌≡◌, ◌++◌, drop}
use Rattle.smk_plan_table.specs.Parts.{current_in}
use Rattle.smk_plan_table.proofs.current.current.Given as goal

abbrev pub invariant-loop-path : goal.invariant-loop-path
invariant-loop-path g l =
    l.found ++ current_in (g.T.Told.known l.told) (g.T.Told.seen l.told) (drop l.path-index l.paths) l.other_targets l.other_flags
    ≡ current_in (g.T.Told.known l.told) (g.T.Told.seen l.told) l.paths l.targets l.ready
