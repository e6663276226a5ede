use Rattle.std.proofs.Common.{◌≡◌, take}
use Rattle.std.specs.List.{filter}
use Rattle.smk_plan_table.specs.Parts.{shown, is_marked_in}
use Rattle.smk_plan_table.proofs.marking.marked_among.Given as goal

abbrev pub invariant-loop-path : goal.invariant-loop-path
invariant-loop-path g l = l.found ≡ filter (is_marked_in (g.T.Told.known l.told)) (shown (take l.path-index l.paths))
