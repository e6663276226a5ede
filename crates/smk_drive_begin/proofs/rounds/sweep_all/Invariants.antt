use Rattle.smk_drive_hub.specs.Keeping.{parts_of}
use Rattle.smk_drive_begin.specs.declared.rounds.Round.TheVariants.{Removed}
use Rattle.smk_drive_begin.specs.Rounds.{HasSwept}
use Rattle.smk_drive_begin.proofs.rounds.sweep_all.Given as goal

abbrev pub invariant-loop : goal.invariant-loop
invariant-loop g l =
    HasSwept g.W.Files.act l.flow l.settings (parts_of l.fn.hub) (parts_of l.hub) l.removed Removed (g.W.Files.device l.fn.work) (g.W.Files.device l.work)
