use Rattle.std.proofs.Common.{take}
use Rattle.smk_drive_step.specs.Stamping.{AreStampsFor}
use Rattle.smk_drive_step.proofs.stamps.stamps_of.Given as goal

abbrev pub invariant-loop-found : goal.invariant-loop-found
invariant-loop-found l = AreStampsFor l.made (take l.found-index l.known) l.stamps
