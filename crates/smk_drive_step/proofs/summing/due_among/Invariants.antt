use Rattle.std.proofs.Common.{◌≡◌, ◌++◌, drop}
use Rattle.smk_drive_step.specs.Stamping.{due_among}
use Rattle.smk_drive_step.proofs.summing.due_among.Given as goal

abbrev pub invariant-loop-number : goal.invariant-loop-number
invariant-loop-number l = due_among l.paths l.known ≡ l.found ++ due_among (drop l.number l.paths) (drop l.number l.known)
