use Rattle.std.proofs.Common.{◌+◌, refl, ap, ◌∙◌, map}
use Rattle.smk_pick.specs.Shares.{raised}
use Rattle.smk_pick.proofs.Holding.{taken_holds}
use Rattle.smk_pick.proofs.room.Room.take.Goals as goal

pub returns : goal.returns
returns c = λ cores bounds asks h.
    taken_holds cores bounds c.args.self.now (record c.args.self.now { threads = c.args.self.now.threads + c.min.result; shares = c.raise_all.new.shares }) asks c.args.ask.now h refl (ap (λ n. c.args.self.now.threads + n) c.min.ensures)
    (c.raise_all.ensures ∙ ap (λ l. map (raised l) c.args.self.now.shares.items) c.as_slice.ensures)
