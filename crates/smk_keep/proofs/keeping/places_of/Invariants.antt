use Rattle.std.proofs.Common.{◌≡◌, take}
use Rattle.smk_keep.proofs.keeping.places_of.Given as goal

abbrev pub invariant-loop-output : goal.invariant-loop-output
invariant-loop-output l = l.places ≡ take l.output-index l.outputs
