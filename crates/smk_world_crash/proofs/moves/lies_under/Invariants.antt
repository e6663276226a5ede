use Rattle.std.proofs.Common.{◌≡◌, length}
use Rattle.smk_base.specs.Path.{is_under}
use Rattle.smk_world_crash.proofs.moves.lies_under.Given as goal

abbrev pub invariant-loop-front : goal.invariant-loop-front
invariant-loop-front l = is_under l.text l.folder ≡ is_under l.rest l.front

abbrev pub decreases-loop-front : goal.decreases-loop-front
decreases-loop-front l = length l.front
