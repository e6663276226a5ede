use Rattle.std.proofs.Common.{sym}
use Rattle.smk_drive_first.proofs.Kept.{checked_kept, unplanned, checked_quiet, checked_no_sink, checked_fresh, checked_jobs}
use Rattle.smk_drive_first.proofs.rounds.plan_seen.Goals as goal

pub checked-requires : goal.checked-requires
checked-requires g c = record { each = sym c.in-Ok.ensures.fresh.live.each }

pub returns-in-Ok-clause-no_device : goal.returns-in-Ok-clause-no_device
returns-in-Ok-clause-no_device g c = checked_quiet c.args.flow.now c.args.settings.now c.in-Ok.live c.checked.result c.checked.ensures.not

pub returns-in-Ok-clause-no_sink : goal.returns-in-Ok-clause-no_sink
returns-in-Ok-clause-no_sink g c = checked_no_sink c.args.flow.now c.args.settings.now c.in-Ok.live c.checked.result c.checked.ensures.not

pub returns-in-Ok-clause-fresh : goal.returns-in-Ok-clause-fresh
returns-in-Ok-clause-fresh g c = checked_fresh c.args.settings.now c.in-Ok.live c.checked.result c.in-Ok.ensures.fresh c.checked.ensures.same

pub returns-in-Ok-clause-jobs : goal.returns-in-Ok-clause-jobs
returns-in-Ok-clause-jobs g c = checked_jobs c.args.jobs c.in-Ok.live c.checked.result c.in-Ok.ensures.jobs c.checked.ensures.same

pub returns-in-Ok-clause-told : goal.returns-in-Ok-clause-told
returns-in-Ok-clause-told g c = λ image agree ready read.
    checked_kept read c.args.flow.now c.args.settings.now image c.args.jobs c.in-Ok.live c.planned.result c.checked.result c.in-Ok.is c.in-Ok.ensures.fresh c.in-Ok.ensures.jobs
    (c.planned.ensures.told image agree) ready c.checked.ensures.same c.checked.ensures.good c.checked.ensures.not

pub returns-in-Err-clause-told : goal.returns-in-Err-clause-told
returns-in-Err-clause-told g c = λ image agree ready read.
    unplanned read c.args.flow.now c.args.settings.now image c.args.jobs c.planned.result c.in-Err.fault c.in-Err.is (c.planned.ensures.told image agree) ready
