use Rattle.std.proofs.Common.{◌-◌, ◌∙◌, sym, arith, rules}
use Rattle.std.proofs.lemmas.List.{get_or_read}
use Rattle.std.proofs.lemmas.Bool.{or_parts}
use Rattle.smk_choose.specs.Heights.{no_node}
use Rattle.smk_choose.proofs.Sweeps.{swept_more, complete_more}
use Rattle.smk_choose.proofs.heights.sweep.Goals as goal

pub loop-path-preserved : goal.loop-path-preserved
loop-path-preserved c =
    let path = c.loop-path.path - 1 in
    let within = c.loop-path.invariant.within in
    let node = c.index-nodes-path.result in
    record {
      within = omega (arith, within);
      len = search rules;
      swept =
          swept_more c.args.nodes.now c.args.heights.now c.loop-path.heights c.lower_at-changed.new.heights path node c.next_height-height.result c.loop-path.path
          (omega (arith, c.loop-path-test.true)) c.loop-path.invariant.swept
          (sym (get_or_read c.args.nodes.now path node (omega (arith, within, c.loop-path-test.true)) c.index-nodes-path.is no_node))
          c.next_height-height.ensures.zero c.next_height-height.ensures.more c.lower_at-changed.ensures.lowered;
      same = λ e.
          let both = or_parts c.loop-path.changed c.lower_at-changed.result e in
          c.lower_at-changed.ensures.same both.1 ∙ c.loop-path.invariant.same both.0;
    }

pub returns-clause-complete : goal.returns-clause-complete
returns-clause-complete c = λ m.
    complete_more c.args.nodes.now c.args.heights.now c.loop-path.heights c.loop-path.path (omega (arith, c.loop-path-test.false)) c.loop-path.invariant.swept m
