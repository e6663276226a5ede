use Rattle.std.proofs.Common.{sym, ap, ◌∙◌}
use Rattle.std.specs.Prelude.{option_map}
use Rattle.smk_pick.proofs.Picking.{one_more, one_unknown}
use Rattle.smk_pick.proofs.choice.start_all.Goals as goal

pub loop-rank-preserved-in_default : goal.loop-rank-preserved-in_default
loop-rank-preserved-in_default c = λ cores bounds taken held.
    one_unknown cores bounds c.args.asks.now c.loop-rank.left c.loop-rank.picked c.args.ranks.now c.loop-rank.rank-index (0, 0) _ c.loop-rank-test.true (sym c.ask_at.ensures ∙ ap (option_map (λ a. a.now)) c.in_default.is) (c.loop-rank.invariant cores bounds taken held)

pub loop-rank-preserved : goal.loop-rank-preserved
loop-rank-preserved c = λ cores bounds taken held.
    one_more cores bounds c.args.asks.now c.loop-rank.left c.start.new.left c.loop-rank.picked c.start.new.picked c.in-Some.ask.now c.args.ranks.now c.loop-rank.rank-index (0, 0) _ c.loop-rank-test.true
    (sym c.ask_at.ensures ∙ ap (option_map (λ a. a.now)) c.in-Some.is) (c.in_ok-start.ensures cores bounds) (c.loop-rank.invariant cores bounds taken held)
