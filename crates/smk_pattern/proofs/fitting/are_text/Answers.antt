use Rattle.smk_pattern.proofs.Least.{text_past}
use Rattle.smk_pattern.proofs.fitting.are_text.Goals as goal

pub loop-piece-preserved : goal.loop-piece-preserved
loop-piece-preserved c = (
  c.in-Some.ensures.utf8,
  text_past c.args.pieces.now c.loop-piece.piece-index c.piece-item.result c.in-Some.after.now c.loop-piece.rest.now c.loop-piece-test.true c.piece-item.is
      c.in-Some.ensures.cases c.loop-piece.invariant.1,
)
