use Rattle.std.proofs.Common.{◌≡◌, drop}
use Rattle.std.specs.List.{list_any}
use Rattle.smk_pattern.specs.Splitting.{all_written}
use Rattle.smk_pattern.specs.Reading.{is_hole}
use Rattle.smk_pattern.proofs.reading.has_hole.Given as goal

abbrev pub invariant-loop-piece : goal.invariant-loop-piece
invariant-loop-piece l = list_any is_hole (all_written l.written) ≡ list_any is_hole (all_written (drop l.piece-index l.written))
