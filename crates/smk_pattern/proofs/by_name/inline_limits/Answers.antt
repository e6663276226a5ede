use Rattle.std.proofs.Common.{drop, ◌+◌}
use Rattle.smk_pattern.specs.Splitting.{all_written}
use Rattle.smk_pattern.proofs.Kept.{not_single, all_parts}
use Rattle.smk_pattern.proofs.by_name.inline_limits.Goals as goal

pub returns-then-not-branch : goal.returns-then-not-branch
returns-then-not-branch c =
    let ws = c.args.written.now in
    let i = c.loop-piece.piece-index in
    let two = (rw c.if-not-branch.true at c.in_ok-add_inline.ensures) _ c.loop-piece.invariant in
    not_single _ (all_written (drop (i + 1) ws)) (all_written ws) two.0 (all_parts ws i _ c.loop-piece-test.true) two.1
