use Rattle.std.proofs.Common.{List, ℕ, ◌++◌, take, ap, sym, ◌∙◌, arith}
use Rattle.smk_pattern.specs.declared.pattern.Piece.{Piece}
use Rattle.smk_pattern.specs.Fitting.{filled, part_text}
use Rattle.smk_pattern.specs.Pieces.{part_of, parts_of}
use Rattle.smk_pattern.specs.Searching.{now_of}
use Rattle.smk_pattern.proofs.Filled.{filled_more}
use Rattle.smk_pattern.proofs.filling.join.Goals as goal

pub loop-piece-preserved : goal.loop-piece-preserved
loop-piece-preserved c =
    let pieces = c.args.pieces.now in
    let values = now_of c.args.values.now in
    let i = c.loop-piece.piece-index in
    c.in_ok-push_str.ensures.bytes
    ∙ ap (λ (t : List ℕ). t ++ c.text_of.result.now) c.loop-piece.invariant
    ∙ ap (λ (t : List ℕ). filled (parts_of (take i pieces)) values ++ t) (c.text_of.ensures ∙ ap (λ (p : Piece). part_text values (part_of p)) c.piece-item.is)
    ∙ sym (filled_more pieces i values c.piece-item.result (omega arith))
