use Rattle.std.proofs.Common.{length}
use denote.Text.{Utf8}
use denote.Shadow.{shadow}
use Rattle.smk_world_real.proofs.settle.push_folders_above.Given as goal

abbrev pub invariant-loop-folder : goal.invariant-loop-folder
invariant-loop-folder l = shadow (Utf8 l.rest)

abbrev pub decreases-loop-folder : goal.decreases-loop-folder
decreases-loop-folder l = length l.rest
