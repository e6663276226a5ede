use Rattle.smk_laws_closes.specs.Learning.{closed_base}
use Rattle.smk_laws_closes.proofs.Knowing.{refused_base, told_base}
use Rattle.smk_drive_close.proofs.knowing.tell.Goals as goal

pub returns-clause-reply : goal.returns-clause-reply
returns-clause-reply c = λ same.
    c.reply_of.ensures.reply (closed_base c.args.number c.args.outcome c.args.live.now.base)
    (told_base c.args.settings.now c.args.number c.args.outcome c.args.live.now c.closed-told.new.self c.closed-told.result same c.closed-told.ensures.live
    c.closed-told.ensures.ok)
    (refused_base c.args.settings.now c.args.number c.args.outcome c.args.live.now c.closed-told.result same c.closed-told.ensures.refused)
