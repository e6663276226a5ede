use Rattle.smk_drive_hub.proofs.Checked.{checked_quiet}
use Rattle.smk_drive_hub.proofs.learning.check_texts.Goals as goal

pub returns-clause-quiet : goal.returns-clause-quiet
returns-clause-quiet c = checked_quiet c.args.flow.now c.args.settings.now c.args.live.now c.check_jobs.result c.check_jobs.ensures.err
