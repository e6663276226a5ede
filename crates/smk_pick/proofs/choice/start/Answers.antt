use Rattle.smk_pick.proofs.Picking.{one_started}
use Rattle.smk_pick.proofs.choice.start.Goals as goal

pub returns : goal.returns
returns c = λ cores bounds.
    one_started cores bounds c.args.left.now c.take.new.self c.args.picked.now c.push.new.self c.args.ask.now c.args.number c.fits.result c.if-not-fits.false
    (c.fits.ensures.within cores bounds) (c.take.ensures cores bounds) c.in_ok-push.ensures.ok
