use Rattle.std.proofs.Common.{◌∙◌}
use Rattle.smk_choose.proofs.Spanning.{numbers_step}
use Rattle.smk_choose.proofs.reach.add_paths.Goals as goal

pub loop-path-preserved : goal.loop-path-preserved
loop-path-preserved c =
    let inv = c.loop-path.invariant in
    let one = c.in_ok-number.ensures in
    record {
      numbered = one.numbered;
      nodes = one.nodes ∙ inv.nodes;
      are = numbers_step c.loop-path.reach c.number.new.reach c.args.paths.now c.loop-path.path-index c.path-item.result c.in_ok-copy.field-0 c.in_ok-number.field-0
          c.loop-path-test.true c.path-item.is c.in_ok-copy.ensures one.grows one.is inv.are;
    }
