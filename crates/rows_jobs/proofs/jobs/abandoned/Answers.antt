use Rattle.std.proofs.Common.{refl}
use Rattle.smk_world_mem.specs.Work.{world_in}
use Rattle.rows_jobs.proofs.Idle.{lets_close}
use Rattle.rows_jobs.proofs.jobs.abandoned.Goals as goal

pub abandon-requires : goal.abandon-requires
abandon-requires c = record { room = lets_close (world_in c.args.work.now) c.args.going.recipe (c.in_ok-rest.ensures.rest refl) }
