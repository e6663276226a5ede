use Rattle.std.proofs.Common.{take}
use Rattle.smk_choose.specs.Told.{told_by}
use Rattle.smk_chain_walk.proofs.Targets.{Reaches}
use Rattle.smk_chain_walk.proofs.walking.visit_all.Given as goal

abbrev pub invariant-loop-target : goal.invariant-loop-target
invariant-loop-target l = Reaches l.flow (told_by l.sources) l.lists l.reached (take l.target-index l.target-items)
