use Rattle.smk_drive_pick.proofs.Better.{no_better}
use Rattle.smk_drive_pick.proofs.next.is_no_better.Goals as goal

pub returns-in-Some : goal.returns-in-Some
returns-in-Some c = λ h. no_better c.args.best c.in-Some.best c.args.job.now c.in-Some.is h
