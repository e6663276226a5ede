use Rattle.std.proofs.Common.{◌≡◌, take}
use Rattle.smk_store.specs.Stores.{known}
use Rattle.smk_store.specs.Steadying.{all_signs}
use Rattle.smk_store.proofs.steadying.signs_in.Given as goal

abbrev pub invariant-loop-i : goal.invariant-loop-i
invariant-loop-i l = l.places ≡ all_signs (take l.i (known l.paths l.entries))
