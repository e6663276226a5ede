use Rattle.std.proofs.Common.{◌∙◌}
use Rattle.smk_drive_run.proofs.Ends.{put_by, unput_by, untold_by}
use Rattle.smk_drive_run.proofs.driving.report_made.Goals as goal

pub returns-then-unmade : goal.returns-then-unmade
returns-then-unmade g c = untold_by c.args.settings.now.targets c.args.live.now c.args.tally.now (g.O.Sink.sunk c.args.out.now)

pub returns-in-Err : goal.returns-in-Err
returns-in-Err g c = untold_by c.args.settings.now.targets c.args.live.now c.args.tally.now (g.O.Sink.sunk c.args.out.now)

pub returns-in-Ok-put_closing : goal.returns-in-Ok-put_closing
returns-in-Ok-put_closing g c =
    put_by c.args.settings.now.targets c.args.live.now c.args.tally.now c.in-Ok.current c.put_closing.result c.args.unmade _ _
    (c.in-Ok.ensures ∙ (c.as_slice.ensures ∙ c.current.ensures.value)) c.requires c.if-unmade.false
    c.put_closing.ensures.told c.in-Ok-put_closing.is

pub returns-in-Err-put_closing : goal.returns-in-Err-put_closing
returns-in-Err-put_closing g c =
    unput_by c.args.settings.now.targets c.args.live.now c.args.tally.now c.in-Ok.current c.put_closing.result c.args.unmade _ _
    (c.in-Ok.ensures ∙ (c.as_slice.ensures ∙ c.current.ensures.value)) c.requires c.if-unmade.false
    c.put_closing.ensures.told c.in-Err-put_closing.fault c.in-Err-put_closing.is c.in-Err-put_closing.ensures.faults
