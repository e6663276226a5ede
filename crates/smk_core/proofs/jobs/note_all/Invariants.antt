use Rattle.std.proofs.Common.{take}
use Rattle.smk_core.specs.Lines.{IsNoted}
use Rattle.smk_core.proofs.jobs.note_all.Given as goal

abbrev pub invariant-loop-before : goal.invariant-loop-before
invariant-loop-before l = IsNoted (take l.before-index l.befores) l.job l.fn.behind.items l.behind.items
