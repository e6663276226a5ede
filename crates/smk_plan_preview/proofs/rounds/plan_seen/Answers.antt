use Rattle.std.proofs.Common.{sym}
use Rattle.smk_plan_preview.proofs.Rounded.{checked_told, checked_sound, checked_jobs, checked_device, checked_sink, planned_told}
use Rattle.smk_plan_preview.proofs.rounds.plan_seen.Goals as goal

pub checked-requires : goal.checked-requires
checked-requires g c = record { each = sym c.in-Ok.ensures.lengths.states }

pub returns-in-Ok-clause-no_device : goal.returns-in-Ok-clause-no_device
returns-in-Ok-clause-no_device g c = checked_device c.args.flow.now c.args.settings.now c.args.jobs c.in-Ok.made c.checked.result c.checked.ensures.not

pub returns-in-Ok-clause-no_sink : goal.returns-in-Ok-clause-no_sink
returns-in-Ok-clause-no_sink g c = checked_sink c.args.flow.now c.args.settings.now c.args.jobs c.in-Ok.made c.checked.result c.checked.ensures.not

pub returns-in-Ok-clause-jobs : goal.returns-in-Ok-clause-jobs
returns-in-Ok-clause-jobs g c = checked_jobs c.args.jobs c.in-Ok.made c.checked.result c.checked.ensures.same

pub returns-in-Ok-clause-sound : goal.returns-in-Ok-clause-sound
returns-in-Ok-clause-sound g c = checked_sound c.args.flow.now c.args.settings.now c.args.jobs c.in-Ok.made c.checked.result c.in-Ok.ensures.lengths c.checked.ensures.same c.checked.ensures.good

pub returns-in-Ok-clause-told : goal.returns-in-Ok-clause-told
returns-in-Ok-clause-told g c = λ image agree ready read.
    checked_told read c.args.flow.now c.args.settings.now image c.args.jobs c.in-Ok.made c.planned.result c.checked.result c.in-Ok.is (c.planned.ensures.told image agree) ready c.checked.ensures.same c.checked.ensures.good c.checked.ensures.not

pub returns-in-Err-clause-told : goal.returns-in-Err-clause-told
returns-in-Err-clause-told g c = λ image agree ready read.
    planned_told read c.args.flow.now c.args.settings.now image c.args.jobs c.planned.result c.in-Err.fault c.in-Err.is (c.planned.ensures.told image agree) ready
