use Rattle.std.proofs.Common.{◌≡◌, ◌++◌, map, take}
use Rattle.smk_plan_facts.specs.Telling.{whole_at}
use Rattle.smk_plan_facts.proofs.directories.add_whole.Given as goal

abbrev pub invariant-loop-out : goal.invariant-loop-out
invariant-loop-out g l = l.flags ≡ l.initial.flags ++ map (whole_at (g.T.Told.known l.told) (g.T.Told.seen l.told)) (take l.out-index l.outs)
