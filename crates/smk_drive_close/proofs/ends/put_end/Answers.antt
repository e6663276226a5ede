use Rattle.std.proofs.Common.{◌∙◌, sym}
use Rattle.smk_laws_closes.specs.Lines.{end_text}
use Rattle.smk_drive.specs.Reports.{named_job}
use Rattle.smk_laws_closes.proofs.Noting.{bad_text, same_line}
use Rattle.smk_drive_close.proofs.ends.put_end.Goals as goal

pub returns-clause-told : goal.returns-clause-told
returns-clause-told g c =
    let name = named_job c.args.flow.now c.args.job.now in
    c.put_made.ensures.told (end_text c.args.done.now name c.args.ending.now)
    (same_line c.line_of.result _ _ (bad_text c.args.done.now name c.args.ending.now (sym c.is_good.ensures ∙ c.if-is_good.false)) c.line_of.ensures)
