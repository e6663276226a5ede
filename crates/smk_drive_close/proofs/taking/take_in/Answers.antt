use Rattle.smk_drive_hub.specs.Keeping.{parts_of}
use Rattle.smk_drive_close.proofs.Taken.{taken_in}
use Rattle.smk_drive_close.proofs.taking.take_in.Goals as goal

pub returns-in-Ok-grow-clause-ok : goal.returns-in-Ok-grow-clause-ok
returns-in-Ok-grow-clause-ok g c =
    taken_in c.args.found.jobs c.args.found.store c.args.found.seen (parts_of c.args.hub.now) c.grow.new.self c.in-Ok.numbers c.renumber.new.self.places.items
    c.in-Ok-grow.ensures.ok c.in-Ok.ensures c.renumber.ensures
