use Rattle.std.proofs.Common.{◌∙◌, ap, sym, Err}
use Rattle.smk_laws_begins.specs.Noting.{told_and_put}
use Rattle.smk_drive_begin.specs.Kits.{put_answer}
use Rattle.smk_drive_begin.proofs.Notes.{line_missing}
use Rattle.smk_drive_begin.proofs.noting.told_and_put.Goals as goal

pub returns : goal.returns
returns c = ap Err c.lost_fault.ensures ∙ (line_missing c.args.told ∙ ap (λ b. told_and_put c.args.told (put_answer b)) (sym c.if-put.false))
