use Rattle.std.proofs.Common.{◌≡◌, take}
use Rattle.smk_world.specs.Trees.{among}
use Rattle.smk_keep_forget.proofs.turning.has.Given as goal

abbrev pub invariant-loop-path : goal.invariant-loop-path
invariant-loop-path l = l.found ≡ among (take l.path-index l.paths) l.p
