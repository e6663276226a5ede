use Rattle.std.proofs.Common.{◌∙◌, ◌++◌, ◌∷◌, [], List, sym, subst}
use Rattle.smk_choose.specs.declared.nodes.Way.{Way}
use Rattle.smk_choose.specs.Reach.{AreMade}
use Rattle.smk_choose.proofs.Growing.{grows_then, made_later, made_push}
use Rattle.smk_choose.proofs.reach.ways.Goals as goal

pub loop-making-preserved : goal.loop-making-preserved
loop-making-preserved c =
    let inv = c.loop-making.invariant in
    let one = c.in_ok-way.ensures in
    let before = made_later c.args.readings.now c.loop-making.reach c.way.new.reach c.loop-making.ways c.loop-making.yielded one.grows inv.are in
    record {
      numbered = one.numbered;
      grows = grows_then c.args.reach.now c.loop-making.reach c.way.new.reach inv.grows one.grows;
      nodes = one.nodes ∙ inv.nodes;
      are =
          subst (λ (ws : List Way). AreMade c.args.readings.now c.way.new.reach.paths.items ws (c.loop-making.yielded ++ c.in-Some.making ∷ [])) (sym c.in_ok-push.ensures.ok)
          (made_push c.args.readings.now c.way.new.reach.paths.items c.loop-making.ways c.loop-making.yielded c.in_ok-way.field-0 c.in-Some.making before one.is);
    }
