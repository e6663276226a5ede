use Rattle.smk_world.proofs.Devices.{looked_as}
use Rattle.smk_plan_preview.proofs.LookedAt.{sight_same}
use Rattle.smk_drive_more.proofs.Beside.{sight_told}
use Rattle.smk_drive_more.proofs.parts.sighted.Goals as goal

pub returns-clause-looked : goal.returns-clause-looked
returns-clause-looked g c = looked_as (sight_same c.sight-found.result c.of_sources.result c.of_sources.ensures.is) c.sight-found.ensures.looked

pub returns-clause-told : goal.returns-clause-told
returns-clause-told g c =
    let e = c.sight-found.ensures in
    sight_told c.args.flow.now c.args.targets.now c.args.lists.now (g.W.Files.device c.args.work.now) c.args.store.now c.sight-found.result c.of_sources.result
    c.of_sources.ensures.is e.told e.too_many
