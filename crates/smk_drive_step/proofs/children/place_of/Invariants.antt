use Rattle.std.proofs.Common.{◌≡◌, false, take}
use Rattle.std.specs.List.{list_any}
use Rattle.smk_drive_step.specs.Crews.{is_numbered}
use Rattle.smk_drive_step.proofs.children.place_of.Given as goal

abbrev pub invariant-loop-at : goal.invariant-loop-at
invariant-loop-at l = list_any (is_numbered l.number) (take l.at l.places) ≡ false
