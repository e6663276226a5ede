use Rattle.std.proofs.Common.{◌∙◌}
use Rattle.smk_pick.proofs.Holding.{fits_is}
use Rattle.smk_pick.proofs.room.Room.fits.Goals as goal

pub returns-clause-within : goal.returns-clause-within
returns-clause-within c = λ cores bounds asks h. c.has_left.ensures ∙ fits_is cores bounds c.args.self.now asks c.args.ask.now h
