use Rattle.std.proofs.Common.{arith}
use Rattle.smk_pattern.proofs.Least.{least_more}
use Rattle.smk_pattern.proofs.fitting.least_length.Goals as goal

pub loop-piece-preserved : goal.loop-piece-preserved
loop-piece-preserved c = λ values s.
    least_more c.args.pieces.now c.loop-piece.piece-index c.piece-item.result values c.loop-piece.least c.least_part.result _ (omega arith) (omega arith) c.piece-item.is
    (c.loop-piece.invariant values s) (c.least_part.ensures values s)
