use Rattle.std.proofs.Common.{◌≡◌, length}
use Rattle.smk_drive_step.specs.Crews.{renumbered}
use Rattle.smk_drive_step.proofs.children.set_jobs.Given as goal

abbrev pub decreases-numbers : goal.decreases-numbers
decreases-numbers l = length l.left

abbrev pub invariant-numbers : goal.invariant-numbers
invariant-numbers l = renumbered l.left l.places.items ≡ renumbered l.fn.numbers l.initial.places.items
