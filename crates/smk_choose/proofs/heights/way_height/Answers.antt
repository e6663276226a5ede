use Rattle.std.proofs.Common.{Some, sym, ap, ◌∙◌}
use Rattle.smk_choose.specs.Heights.{is_within, height_at, want_in}
use Rattle.smk_choose.proofs.Sweeps.{none_here}
use Rattle.smk_choose.proofs.heights.way_height.Goals as goal

pub returns-in-None : goal.returns-in-None
returns-in-None c = λ n.
    none_here (want_in (λ q. is_within n (height_at c.args.heights.now q))) c.args.way.now.wants c.as_slice-want-items.result.now c.loop-want.want-index c.want-item.result
    (is_within n (Some c.loop-want.most)) c.as_slice-want-items.ensures (c.loop-want.invariant n) c.loop-want-test.true c.want-item.is
    (sym (c.want_height.ensures n) ∙ ap (is_within n) c.in-None.is)
