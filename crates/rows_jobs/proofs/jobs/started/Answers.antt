use Rattle.std.proofs.Common.{refl}
use Rattle.smk_world_mem.specs.Work.{world_in}
use Rattle.rows_jobs.proofs.Bare.{each_stamped, valid_each, one_output, some_run}
use Rattle.rows_jobs.proofs.Idle.{lets_begin}
use Rattle.rows_jobs.proofs.jobs.started.Goals as goal

pub begin-requires-clause-each_stamped : goal.begin-requires-clause-each_stamped
begin-requires-clause-each_stamped c = each_stamped c.args.kept.now c.args.job.now.recipe c.stamps.result.now c.requires.bare c.requires.recipe c.stamps.ensures

pub begin-requires-clause-valid : goal.begin-requires-clause-valid
begin-requires-clause-valid c =
    valid_each c.args.kept.now c.args.job.now.recipe c.stamps.result.now c.made.result c.requires.bare c.requires.recipe c.stamps.ensures c.made.ensures

pub begin-requires-clause-room : goal.begin-requires-clause-room
begin-requires-clause-room c =
    lets_begin (world_in c.args.work.now) c.args.job.now.recipe c.args.job.now.logs c.args.kept.now.path (c.in_ok-rest.ensures.rest refl)
    (one_output c.args.kept.now c.args.job.now.recipe c.requires.bare c.requires.recipe) c.requires.logs

pub returns-in-Ok : goal.returns-in-Ok
returns-in-Ok c = some_run _ _ _ c.in-Ok.ensures.begun.running
