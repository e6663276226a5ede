use Rattle.std.proofs.Common.{◌≡◌, drop}
use Rattle.std.specs.List.{list_all}
use Rattle.smk_pattern.specs.Splitting.{all_written}
use Rattle.smk_pattern.specs.Written.{is_named}
use Rattle.smk_pattern.proofs.reading.are_named.Given as goal

abbrev pub invariant-loop-piece : goal.invariant-loop-piece
invariant-loop-piece l = list_all is_named (all_written l.written) ≡ list_all is_named (all_written (drop l.piece-index l.written))
