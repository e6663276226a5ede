use Rattle.std.proofs.Common.{◌≡◌, List, ℕ, drop}
use Rattle.smk_pattern.specs.ByName.{AreNames}
use Rattle.smk_pattern.specs.Splitting.{all_written}
use Rattle.smk_pattern.specs.Reading.{names_in}
use Rattle.smk_pattern.proofs.Names.{names_from}
use Rattle.smk_pattern.proofs.by_name.names_in.Given as goal

abbrev pub invariant-loop-piece : goal.invariant-loop-piece
invariant-loop-piece l = (known : List (List ℕ)) × AreNames l.names known × (names_from known (all_written (drop l.piece-index l.written)) ≡ names_in (all_written l.written))
