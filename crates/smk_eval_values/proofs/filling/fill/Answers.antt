use Rattle.std.proofs.Common.{List, ℕ, ◌++◌, take, ap, sym, ◌∙◌, arith}
use Rattle.smk_eval_values.specs.declared.reading.Piece.{Piece}
use Rattle.smk_eval_values.specs.Letters.{filled, piece_letters, letters_of}
use Rattle.smk_eval_values.proofs.Fill.{filled_more}
use Rattle.smk_eval_values.proofs.filling.fill.Goals as goal

pub loop-piece-preserved : goal.loop-piece-preserved
loop-piece-preserved c =
    let pieces = c.args.pieces.now in
    let bound = c.args.bound.now in
    let i = c.loop-piece.piece-index in
    c.in_ok-push_piece.ensures
    ∙ ap (λ (t : List ℕ). t ++ filled bound (piece_letters c.piece-item.result)) c.loop-piece.invariant
    ∙ ap (λ (p : Piece). filled bound (letters_of (take i pieces)) ++ filled bound (piece_letters p)) c.piece-item.is
    ∙ sym (filled_more bound pieces i c.piece-item.result (omega arith))
