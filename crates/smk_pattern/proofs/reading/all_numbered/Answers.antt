use Rattle.std.proofs.Common.{arith}
use Rattle.std.proofs.lemmas.Grind.{common_steps}
use Rattle.smk_pattern.proofs.PartTexts.{texts_push}
use Rattle.smk_pattern.proofs.reading.all_numbered.Goals as goal

pub loop-piece-preserved : goal.loop-piece-preserved
loop-piece-preserved c = record {
  pieces = λ known h. let before = c.loop-piece.invariant.pieces known h in let here = c.in_ok-numbered.ensures.piece known h in grind (arith, common_steps);
  texts = texts_push _ _ _ c.in_ok-push.ensures.ok c.loop-piece.invariant.texts c.in_ok-numbered.ensures.texts;
}
