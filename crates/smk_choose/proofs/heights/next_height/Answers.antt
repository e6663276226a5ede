use Rattle.std.proofs.Common.{◌||◌, ap, ap₂, ◌∙◌, suc}
use Rattle.std.specs.List.{list_all}
use Rattle.smk_choose.specs.declared.nodes.Way.{Way}
use Rattle.smk_choose.specs.Heights.{is_within, height_at, want_in}
use Rattle.smk_choose.proofs.Sweeps.{any_step}
use Rattle.smk_choose.proofs.heights.next_height.Goals as goal

pub loop-way-preserved : goal.loop-way-preserved
loop-way-preserved c = record {
  zero = c.lower-least.ensures 0 ∙ ap₂ ◌||◌ c.loop-way.invariant.zero c.one_more.ensures.zero;
  more = λ n lt.
      any_step (λ (w : Way). list_all (want_in (λ q. is_within n (height_at c.args.heights.now q))) w.wants) c.as_slice-way-items.result.now c.loop-way.way-index c.way-item.result _ _ _
      (c.loop-way.invariant.more n lt) c.loop-way-test.true c.way-item.is
      (c.lower-least.ensures (suc n) ∙ ap (λ x. is_within (suc n) c.loop-way.least || x) (c.one_more.ensures.more n lt ∙ c.way_height.ensures n));
}
