use Rattle.std.proofs.Common.{take}
use Rattle.smk_pattern.specs.ByName.{AreInline}
use Rattle.smk_pattern.specs.Splitting.{all_written}
use Rattle.smk_pattern.proofs.by_name.inline_limits.Given as goal

abbrev pub invariant-loop-piece : goal.invariant-loop-piece
invariant-loop-piece l = AreInline l.texts (all_written (take l.piece-index l.written))
