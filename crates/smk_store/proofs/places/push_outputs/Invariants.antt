use Rattle.std.proofs.Common.{◌≡◌, ◌++◌, take}
use Rattle.smk_store.proofs.places.push_outputs.Given as goal

abbrev pub invariant-loop-path : goal.invariant-loop-path
invariant-loop-path l = l.places ≡ l.initial.places ++ take l.path-index l.paths
