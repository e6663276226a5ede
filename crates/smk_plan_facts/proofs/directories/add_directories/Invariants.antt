use Rattle.std.proofs.Common.{◌≡◌, ◌++◌, take}
use Rattle.std.specs.List.{flat_map}
use Rattle.smk_plan_facts.specs.Telling.{directory_at}
use Rattle.smk_plan_facts.proofs.directories.add_directories.Given as goal

abbrev pub invariant-loop-out : goal.invariant-loop-out
invariant-loop-out g l = l.found ≡ l.initial.found ++ flat_map (directory_at (g.T.Told.known l.told) (g.T.Told.seen l.told)) (take l.out-index l.outs)
