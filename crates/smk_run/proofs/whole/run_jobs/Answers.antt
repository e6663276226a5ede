use Rattle.std.proofs.Common.{sym, subst, ◌∙◌}
use Rattle.smk_world.specs.Trees.{Each}
use Rattle.smk_run.specs.Duties.{due_from, due, serials, serial_in}
use Rattle.smk_run.specs.Runs.{IsReady}
use Rattle.smk_run.proofs.Makers.{made_same, dues_same}
use Rattle.smk_run.proofs.Running.{run_not, run_as}
use Rattle.smk_run.proofs.Serving.{all_ready}
use Rattle.smk_run.proofs.whole.run_jobs.Goals as goal

pub returns-in_default : goal.returns-in_default
returns-in_default g c =
    run_not g.W.Files.act c.args.flow.now c.args.cores (due c.args.agenda.now.first c.args.agenda.now.duties c.args.jobs.now.jobs) (serials c.args.jobs.now.makers c.args.agenda.now.first c.args.agenda.now.duties) _ _ c.requires.none_runs

pub returns-in_default-made_by : goal.returns-in_default-made_by
returns-in_default-made_by g c =
    run_not g.W.Files.act c.args.flow.now c.args.cores (due c.args.agenda.now.first c.args.agenda.now.duties c.args.jobs.now.jobs) (serials c.args.jobs.now.makers c.args.agenda.now.first c.args.agenda.now.duties) _ _ c.requires.none_runs

pub run_all-requires-clause-ready : goal.run_all-requires-clause-ready
run_all-requires-clause-ready g c =
    let flow = c.args.flow.now in
    let jobs = c.args.jobs.now in
    let duties = c.args.agenda.now.duties in
    let first = c.args.agenda.now.first in
    let dues = dues_same c.as_slice-4.result.now first c.as_slice.result.now c.as_slice-5.result.now duties c.as_slice-6.result.now jobs.jobs (c.as_slice-4.ensures ∙ c.in-Ok.ensures) c.as_slice.ensures c.as_slice-5.ensures c.as_slice-6.ensures in
    let made = made_same c.in-Ok-made_by.made c.as_slice-2.result.now jobs.makers c.as_slice-3.result.now first c.as_slice.result.now duties c.as_slice-2.ensures (c.as_slice-3.ensures ∙ c.in-Ok.ensures) c.as_slice.ensures c.in-Ok-made_by.ensures in
    λ κs within.
    subst (λ m. Each (IsReady flow c.args.cores m) (due_from (serial_in c.as_slice-4.result.now) 0 c.as_slice-5.result.now c.as_slice-6.result.now)) (sym made)
    (subst (λ l. Each (IsReady flow c.args.cores (serials jobs.makers first duties)) l) (sym dues)
    (all_ready flow c.args.cores first jobs duties c.requires.positive c.requires.runnable c.requires.servable c.requires.good))

pub returns : goal.returns
returns g c =
    let jobs = c.args.jobs.now in
    let duties = c.args.agenda.now.duties in
    let first = c.args.agenda.now.first in
    let dues = dues_same c.as_slice-4.result.now first c.as_slice.result.now c.as_slice-5.result.now duties c.as_slice-6.result.now jobs.jobs (c.as_slice-4.ensures ∙ c.in-Ok.ensures) c.as_slice.ensures c.as_slice-5.ensures c.as_slice-6.ensures in
    let made = made_same c.in-Ok-made_by.made c.as_slice-2.result.now jobs.makers c.as_slice-3.result.now first c.as_slice.result.now duties c.as_slice-2.ensures (c.as_slice-3.ensures ∙ c.in-Ok.ensures) c.as_slice.ensures c.in-Ok-made_by.ensures in
    run_as g.W.Files.act c.args.flow.now c.args.cores _ (due first duties jobs.jobs) _ (serials jobs.makers first duties) c.run_all.result _ _ _ _ dues made c.run_all.ensures
