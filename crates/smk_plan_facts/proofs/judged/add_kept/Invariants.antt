use Rattle.std.proofs.Common.{◌≡◌, ◌++◌, map, take}
use Rattle.smk_plan_facts.specs.Telling.{copied_at}
use Rattle.smk_plan_facts.proofs.judged.add_kept.Given as goal

abbrev pub invariant-loop-out : goal.invariant-loop-out
invariant-loop-out g l = l.kept ≡ l.initial.kept ++ map (copied_at (g.T.Told.known l.told)) (take l.out-index l.outs)
