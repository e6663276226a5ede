use Rattle.std.proofs.Common.{◌≡◌, ◌++◌, drop, map}
use Rattle.smk_drive_close.specs.Numbers.{place_number}
use Rattle.smk_drive_close.proofs.numbering.new_numbers.Given as goal

abbrev pub invariant-loop-place : goal.invariant-loop-place
invariant-loop-place l = l.numbers ++ map (place_number l.old l.new) (drop l.place-index l.places) ≡ map (place_number l.old l.new) l.places
