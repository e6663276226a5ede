use Rattle.std.proofs.Common.{◌∙◌}
use Rattle.smk_run.proofs.Closes.{closed_after, none_left, number_is, unwaited}
use Rattle.smk_run.proofs.Honest.{closed_given, unwaited_given}
use Rattle.smk_run.proofs.Idle.{lets_close}
use Rattle.smk_run.proofs.closing.close.Goals as goal

pub returns-in_default-clause-closed : goal.returns-in_default-clause-closed
returns-in_default-clause-closed g c = unwaited g.W.Files.act c.args.going c.in_default.field-0 _ _ c.in_default.ensures.called

pub returns-in_default-clause-given : goal.returns-in_default-clause-given
returns-in_default-clause-given g c = unwaited_given g.W.Files.act c.in_default.field-0 _ _ c.in_default.ensures.called

pub close_job-requires : goal.close_job-requires
close_job-requires g c =
    record {
      room = λ w e.
          lets_close w c.args.going.recipe
          ((g.met.W.Files.sound c.wait.new.self).same_numbers w e
          ∙ c.in-Ok.ensures.called.running
          ∙ none_left c.in-Ok.ended c.args.going.number _ (number_is _ _ _ c.requires.one_runs c.in-Ok.ensures.ran) c.requires.one_runs);
    }

pub returns-clause-closed : goal.returns-clause-closed
returns-clause-closed g c =
    closed_after g.W.Files.act c.args.going c.close_job.result c.in-Ok.ended _ _ _ c.requires.one_runs (number_is _ _ _ c.requires.one_runs c.in-Ok.ensures.ran) c.in-Ok.ensures.called c.close_job.ensures

pub returns-clause-given : goal.returns-clause-given
returns-clause-given g c = closed_given g.W.Files.act c.args.going c.close_job.result c.in-Ok.ended _ _ _ c.in-Ok.ensures.other_status c.in-Ok.ensures.called c.close_job.ensures
