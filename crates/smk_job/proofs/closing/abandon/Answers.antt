use Rattle.std.proofs.Common.{refl, ap, ◌∙◌}
use Rattle.smk_world.proofs.Devices.{carried_as}
use Rattle.smk_job.specs.Jobs.{lose_requests, abandon_requests}
use Rattle.smk_job.proofs.Rooms.{lets_as, close_free}
use Rattle.smk_job.proofs.closing.abandon.Goals as goal

pub lose-requires : goal.lose-requires
lose-requires g c =
    let r = c.going.inside.ready in
    record { unused = close_free (g.W.Files.device c.args.work.now) r.recipe r.logs r.places c.going.invariant.at_places (lets_as (g.W.Files.device c.args.work.now) _ _ c.going.view_is c.requires.room) }

pub returns : goal.returns
returns g c = carried_as (ap lose_requests c.going.invariant.at_places ∙ ap abandon_requests c.going.view_is) refl c.lose.ensures
