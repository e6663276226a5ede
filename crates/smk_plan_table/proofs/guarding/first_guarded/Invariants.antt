use Rattle.std.proofs.Common.{◌≡◌, drop}
use Rattle.std.specs.List.{filter}
use Rattle.smk_world.specs.Trees.{first}
use Rattle.smk_plan_table.specs.Parts.{shown, is_guarded_in}
use Rattle.smk_plan_table.proofs.guarding.first_guarded.Given as goal

abbrev pub invariant-loop-path : goal.invariant-loop-path
invariant-loop-path g l =
    first (filter (is_guarded_in (g.T.Told.seen l.told)) (shown l.paths)) ≡ first (filter (is_guarded_in (g.T.Told.seen l.told)) (shown (drop l.path-index l.paths)))
