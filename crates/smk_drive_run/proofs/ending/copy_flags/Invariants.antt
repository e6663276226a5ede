use Rattle.std.proofs.Common.{◌≡◌, take}
use Rattle.smk_drive_run.proofs.ending.copy_flags.Given as goal

abbrev pub invariant-loop-flag : goal.invariant-loop-flag
invariant-loop-flag l = l.copy ≡ take l.flag-index l.flags
