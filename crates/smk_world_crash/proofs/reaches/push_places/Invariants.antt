use Rattle.std.proofs.Common.{◌≡◌, ◌++◌, take}
use Rattle.smk_world_crash.proofs.reaches.push_places.Given as goal

abbrev pub invariant-loop-path : goal.invariant-loop-path
invariant-loop-path l = l.places ≡ l.fn.places ++ take l.path-index l.paths
