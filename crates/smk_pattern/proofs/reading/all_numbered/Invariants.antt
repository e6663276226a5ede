use Rattle.std.proofs.Common.{◌≡◌, List, ℕ, take, map}
use Rattle.smk_pattern.specs.Pieces.{parts_of}
use Rattle.smk_pattern.specs.ByName.{AreNames}
use Rattle.smk_pattern.specs.Shapes.{AreTexts}
use Rattle.smk_pattern.specs.Splitting.{all_written}
use Rattle.smk_pattern.specs.Reading.{part_in}
use Rattle.smk_pattern.proofs.reading.all_numbered.Given as goal

abbrev pub invariant-loop-piece : goal.invariant-loop-piece
invariant-loop-piece l = record {
  pieces : (known : List (List ℕ)) → AreNames l.names known → parts_of l.made ≡ map (part_in known) (all_written (take l.piece-index l.written));
  texts : AreTexts (parts_of l.made);
}
