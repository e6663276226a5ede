use Rattle.std.proofs.Common.{◌≡◌, length}
use Rattle.smk_record.specs.Reading.{after_front}
use Rattle.smk_record.proofs.file.after_front.Given as goal

abbrev pub invariant-loop-left : goal.invariant-loop-left
invariant-loop-left l = after_front l.left l.rest ≡ after_front l.front l.bytes

abbrev pub decreases-loop-left : goal.decreases-loop-left
decreases-loop-left l = length l.left
