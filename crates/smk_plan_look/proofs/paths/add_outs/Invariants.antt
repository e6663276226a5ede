use Rattle.std.proofs.Common.{take}
use Rattle.smk_plan_look.specs.Gathering.{HasAdded, paths_of}
use Rattle.smk_plan_look.proofs.paths.add_outs.Given as goal

abbrev pub invariant-loop-out : goal.invariant-loop-out
invariant-loop-out l = HasAdded l.fn.paths l.paths (paths_of (take l.out-index l.outs))
