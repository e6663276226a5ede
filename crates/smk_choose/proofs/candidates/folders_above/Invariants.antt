use Rattle.std.proofs.Common.{◌≡◌, ◌++◌, map, take, drop}
use Rattle.smk_world.specs.World.{folders_above}
use Rattle.smk_choose.proofs.candidates.folders_above.Given as goal

abbrev pub invariant-loop-at : goal.invariant-loop-at
invariant-loop-at l = folders_above l.text ≡ l.folders.items ++ map (λ q. take l.at l.text ++ q) (folders_above (drop l.at l.text))
