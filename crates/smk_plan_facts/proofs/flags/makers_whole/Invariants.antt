use Rattle.std.proofs.Common.{◌≡◌, map, take, true}
use Rattle.smk_world.specs.Trees.{Each}
use Rattle.smk_plan_facts.specs.Telling.{is_told_whole, IsSorted}
use Rattle.smk_plan_facts.proofs.flags.makers_whole.Given as goal

abbrev pub invariant-loop-maker : goal.invariant-loop-maker
invariant-loop-maker g l =
    (l.sorted ≡ true → Each (Each (IsSorted (g.T.Told.seen l.told))) l.directories) →
    l.flags ≡ map (is_told_whole (g.T.Told.seen l.told) l.directories) (take l.maker-index l.makers)
