use Rattle.std.proofs.Common.{ap, option_map, sym, ◌∙◌}
use Rattle.smk_laws_closes.proofs.Knowing.{learnt_fault, learnt_told}
use Rattle.smk_drive_close.proofs.knowing.learn.Goals as goal

pub returns-in-Ok-clause-acted : goal.returns-in-Ok-clause-acted
returns-in-Ok-clause-acted g c =
    learnt_told g.W.Files.act c.args.flow.now c.args.settings.now c.args.number c.args.live.now c.tell.new.live c.in-Some.job.now c.in-Ok.outcome c.tell.result _ _
    (sym c.job_at.ensures ∙ ap (option_map (λ j. j.now)) c.in-Some.is) c.in-Ok.ensures.looked c.in-Ok.ensures.told c.tell.ensures.reply c.tell.ensures.other

pub returns-in-Err-clause-acted : goal.returns-in-Err-clause-acted
returns-in-Err-clause-acted g c =
    learnt_fault g.W.Files.act c.args.flow.now c.args.settings.now c.args.number c.args.live.now c.in-Err.fault _ _ c.in-Err.ensures.err c.in-Err.ensures.looked
