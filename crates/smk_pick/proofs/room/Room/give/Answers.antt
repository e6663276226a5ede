use Rattle.std.proofs.Common.{◌-◌, refl, ap, ◌∙◌, map}
use Rattle.smk_pick.specs.Shares.{lowered}
use Rattle.smk_pick.proofs.Holding.{given_holds}
use Rattle.smk_pick.proofs.room.Room.give.Goals as goal

pub returns : goal.returns
returns c = λ cores bounds before after h.
    given_holds cores bounds c.args.self.now (record c.args.self.now { threads = c.args.self.now.threads - c.min.result; shares = c.lower_all.new.shares }) before c.args.ask.now after h refl (ap (λ n. c.args.self.now.threads - n) c.min.ensures)
    (c.lower_all.ensures ∙ ap (λ l. map (lowered l) c.args.self.now.shares.items) c.as_slice.ensures)
