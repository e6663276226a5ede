use Rattle.smk_world.proofs.Devices.{looked_as}
use Rattle.smk_plan_preview.proofs.LookedAt.{look_same, look_untold}
use Rattle.smk_drive_more.proofs.Beside.{look_told, look_summed}
use Rattle.smk_drive_more.proofs.parts.looked.Goals as goal

pub returns-clause-looked : goal.returns-clause-looked
returns-clause-looked g c = looked_as (look_same c.look-found.result c.of_seen.result c.of_seen.ensures.is) c.look-found.ensures.looked

pub returns-clause-untold : goal.returns-clause-untold
returns-clause-untold g c = look_untold c.look-found.result c.of_seen.result c.of_seen.ensures.is

pub returns-clause-told : goal.returns-clause-told
returns-clause-told g c = look_told (g.W.Files.device c.args.work.now) c.args.jobs.now c.look-found.result c.of_seen.result c.of_seen.ensures.is c.look-found.ensures.told

pub returns-clause-summed : goal.returns-clause-summed
returns-clause-summed g c =
    look_summed (g.W.Files.device c.args.work.now) c.args.jobs.now c.args.store.now c.look-found.result c.of_seen.result c.of_seen.ensures.is c.look-found.ensures.summed
