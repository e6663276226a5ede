use Rattle.smk_laws_closes.proofs.Noting.{told_by_both}
use Rattle.smk_drive_close.proofs.ends.note_end.Goals as goal

pub returns-clause-told : goal.returns-clause-told
returns-clause-told g c =
    told_by_both c.put_end-put.result c.count_end-counted.result c.first_answer.result c.first_answer.ensures c.count_end-counted.ensures.err c.put_end-put.ensures.told
