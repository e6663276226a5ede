use Rattle.std.proofs.Common.{◌∷◌, [], ◌++◌, Err, refl, ap, sym, subst, ◌∙◌}
use Rattle.smk_job.specs.Jobs.{too_long}
use Rattle.smk_run.specs.declared.stop.Stop.TheVariants.{OutOfMemory}
use Rattle.smk_run.specs.Turns.{as_gone}
use Rattle.smk_run.specs.Reports.{named, HasTurned}
use Rattle.smk_run.proofs.Idle.{lets_begin}
use Rattle.smk_run.proofs.Firsts.{named_by}
use Rattle.smk_run.proofs.Turning.{turned, unturned, not_turned}
use Rattle.smk_run.proofs.one.run_one.Goals as goal

pub returns-in_default-job_line-clause-run : goal.returns-in_default-job_line-clause-run
returns-in_default-job_line-clause-run g c = unturned g.W.Files.act c.args.job.now c.args.command.now c.args.made c.args.stamps.now _ _ OutOfMemory _ _ _ refl refl refl c.requires.none_runs

pub begin-requires-clause-room : goal.begin-requires-clause-room
begin-requires-clause-room g c = λ w e.
    lets_begin w c.args.job.now.recipe c.args.job.now.logs ((g.met.W.Files.sound c.args.work.now).same_numbers w e ∙ c.requires.none_runs) c.requires.apart

pub attend-requires-clause-one_runs : goal.attend-requires-clause-one_runs
attend-requires-clause-one_runs g c = c.in-Ok-begin.ensures.begun.running ∙ ap (λ ns. ns ++ c.in-Ok-begin.going.number ∷ []) c.requires.none_runs

pub returns-in-Ok-begin-clause-run : goal.returns-in-Ok-begin-clause-run
returns-in-Ok-begin-clause-run g c =
    turned g.W.Files.act c.args.job.now c.args.command.now c.args.made c.args.stamps.now _ _ c.in-Ok-begin.going c.begin.result c.attend.result _ _ _ _ _
    (named_by c.args.flow.now c.args.job.now c.rule_name-rule.result.now c.in-Some.path.now c.rule_name-rule.ensures c.in-Some.ensures)
    c.in-Ok-begin.is c.begin.ensures.answer c.begin.ensures.begun c.attend.ensures.run

pub returns-clause-run : goal.returns-clause-run
returns-clause-run g c =
    let job = c.args.job.now in
    subst (λ stop. HasTurned g.W.Files.act (as_gone job c.args.command.now c.args.made c.args.stamps.now) (named c.args.flow.now job) (too_long c.args.made job.recipe c.args.stamps.now) (Err stop)
    (g.W.Files.device c.args.work.now) (g.W.Files.device c.begin.new.work) (g.O.Sink.sunk c.args.out.now) (g.O.Sink.sunk c.args.out.now)) (sym c.stop_of.ensures.value)
    (not_turned g.W.Files.act job c.args.command.now c.args.made c.args.stamps.now _ c.begin.result c.in-Err.fault _ _ _ c.in-Err.is c.begin.ensures.answer
    (λ never. ap g.W.Files.device (c.in-Err.ensures.untouched never)) c.requires.none_runs c.begin.ensures.begun)
