use Rattle.smk_drive_hub.specs.Keeping.{parts_of}
use Rattle.smk_drive_close.specs.Rounds.{HasCome}
use Rattle.smk_drive_close.proofs.growing_on.grow.Given as goal

abbrev pub invariant-loop : goal.invariant-loop
invariant-loop g l = HasCome g.W.Files.act l.ground.flow.now l.ground.settings.now (parts_of l.fn.hub) (parts_of l.hub) (g.W.Files.device l.fn.work) (g.W.Files.device l.work)
