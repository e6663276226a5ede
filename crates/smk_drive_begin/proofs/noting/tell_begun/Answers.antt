use Rattle.smk_drive_begin.proofs.Notes.{told_begun}
use Rattle.smk_drive_begin.proofs.noting.tell_begun.Goals as goal

pub returns : goal.returns
returns c =
    told_begun c.args.flow.now c.args.settings.now c.args.number c.args.live.now c.began-told.new.self c.began-told.result c.answer_of.result c.began-told.ensures.live
    c.began-told.ensures.ok c.began-told.ensures.err c.began-told.ensures.refused c.answer_of.ensures.quiet c.answer_of.ensures.answer
