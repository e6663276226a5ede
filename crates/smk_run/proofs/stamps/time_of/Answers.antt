use Rattle.smk_world.proofs.Devices.{acted_nothing}
use Rattle.std.proofs.Common.{Err}
use Rattle.smk_run.specs.declared.stop.Stop.TheVariants.{OutOfMemory}
use Rattle.smk_run.specs.Stamps.{HasTimed}
use Rattle.smk_run.proofs.Stamping.{timed_seen, timed_badly}
use Rattle.smk_run.proofs.stamps.time_of.Goals as goal

pub returns-in_default-clause-acted : goal.returns-in_default-clause-acted
returns-in_default-clause-acted g c = acted_nothing g.W.Files.act (HasTimed c.args.path.now (Err OutOfMemory)) _ (λ w. tt)

pub returns-in-Ok-stat-clause-acted : goal.returns-in-Ok-stat-clause-acted
returns-in-Ok-stat-clause-acted g c =
    timed_seen g.W.Files.act _ _ c.args.path.now c.in-Ok.place c.in-Ok-stat.stat c.time_in.result c.in-Ok.ensures c.time_in.ensures.seen c.in-Ok-stat.ensures

pub returns-clause-acted : goal.returns-clause-acted
returns-clause-acted g c = timed_badly g.W.Files.act _ _ c.args.path.now c.in-Ok.place c.in-Err.field-0 c.in-Ok.ensures c.in-Err.ensures
