use Rattle.std.proofs.Common.{refl}
use Rattle.smk_world_mem.specs.Work.{world_in}
use Rattle.rows_plans.proofs.Idle.{unused_at}
use Rattle.rows_plans.proofs.touched.put.Goals as goal

pub write-requires : goal.write-requires
write-requires c = record { unused = unused_at (world_in c.args.work.now) c.args.place.now (c.in_ok-rest.ensures.rest refl) }
