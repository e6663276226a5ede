use Rattle.std.proofs.Common.{◌∙◌, map, take}
use Rattle.smk_choose.specs.Readings.{filled_by}
use Rattle.smk_choose.proofs.Growing.{grows_then, wants_later, wants_step}
use Rattle.smk_choose.proofs.reach.wants.Goals as goal

pub loop-pattern-preserved : goal.loop-pattern-preserved
loop-pattern-preserved c =
    let inv = c.loop-pattern.invariant in
    let one = c.in_ok-want.ensures in
    record {
      numbered = one.numbered;
      grows = grows_then c.args.reach.now c.loop-pattern.reach c.want.new.reach inv.grows one.grows;
      nodes = one.nodes ∙ inv.nodes;
      are =
          wants_step c.want.new.reach.paths.items c.loop-pattern.wants c.push.new.self c.in_ok-want.field-0 c.in_ok-text.text (filled_by c.args.binding.now) c.args.patterns.now
          c.loop-pattern.pattern-index c.pattern-item.result c.loop-pattern-test.true c.pattern-item.is
          (wants_later c.loop-pattern.reach c.want.new.reach c.loop-pattern.wants (map (filled_by c.args.binding.now) (take c.loop-pattern.pattern-index c.args.patterns.now)) one.grows inv.are)
          c.in_ok-push.ensures.ok one.is c.in_ok-text.ensures;
    }
