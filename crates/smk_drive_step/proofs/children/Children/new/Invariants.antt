use Rattle.std.proofs.Common.{◌≡◌, None, replicate}
use Rattle.smk_drive_step.proofs.children.Children.new.Given as goal

abbrev pub invariant-loop : goal.invariant-loop
invariant-loop l = l.places.items ≡ replicate l.counter None
