use Rattle.smk_drive_hub.specs.Keeping.{parts_of}
use Rattle.smk_drive_run.proofs.Choices.{next_by}
use Rattle.smk_drive_run.proofs.looping.next_of.Goals as goal

pub returns : goal.returns
returns c = next_by (parts_of c.args.hub.now) c.in_ok-next.ensures.wholes c.in_ok-next.next c.in_ok-next.ensures.whole c.in_ok-next.ensures.next
