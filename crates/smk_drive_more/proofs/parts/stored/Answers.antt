use Rattle.smk_world.proofs.Devices.{looked_as}
use Rattle.smk_plan_preview.proofs.LookedAt.{store_same, store_untold}
use Rattle.smk_drive_more.proofs.Beside.{store_told}
use Rattle.smk_drive_more.proofs.parts.stored.Goals as goal

pub returns-clause-looked : goal.returns-clause-looked
returns-clause-looked g c = looked_as (store_same c.load-loaded.result c.of_load.result c.of_load.ensures.is) c.load-loaded.ensures.looked

pub returns-clause-told : goal.returns-clause-told
returns-clause-told g c = store_told (g.W.Files.device c.args.work.now) c.load-loaded.result c.of_load.result c.of_load.ensures.is c.load-loaded.ensures.told

pub returns-clause-untold : goal.returns-clause-untold
returns-clause-untold g c = store_untold c.load-loaded.result c.of_load.result c.of_load.ensures.is c.load-loaded.ensures.no_stamp
