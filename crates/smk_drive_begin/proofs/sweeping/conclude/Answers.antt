use Rattle.std.proofs.Common.{ap, refl, subst, sym}
use Rattle.smk_drive_begin.specs.declared.rounds.Round.{Round}
use Rattle.smk_drive_begin.specs.declared.rounds.Round.TheVariants.{Done, Halted, Removed}
use Rattle.smk_drive_begin.specs.Rounds.{IsConcluded, WasBroken, is_broken}
use Rattle.smk_drive_begin.proofs.Answering.{concluded_by}
use Rattle.smk_drive_begin.proofs.sweeping.conclude.Goals as goal

pub returns-in-Removed : goal.returns-in-Removed
returns-in-Removed g c =
    subst (λ (r : Round). IsConcluded g.W.Files.act c.args.removed.now r (g.W.Files.device c.args.work.now) (g.W.Files.device c.firm.new.work) c.firm.result)
    (sym c.in-Removed.is) (concluded_by g.W.Files.act c.args.removed.now Removed _ _ _ refl c.firm.ensures)

pub returns-in-Done : goal.returns-in-Done
returns-in-Done g c =
    subst (λ (r : Round). IsConcluded g.W.Files.act c.args.removed.now r (g.W.Files.device c.args.work.now) (g.W.Files.device c.firm-in-Done.new.work) c.firm-in-Done.result)
    (sym c.in-Done.is) (concluded_by g.W.Files.act c.args.removed.now Done _ _ _ refl c.firm-in-Done.ensures)

pub returns-in-Halted : goal.returns-in-Halted
returns-in-Halted g c =
    subst
    (λ (r : Round). IsConcluded g.W.Files.act c.args.removed.now r (g.W.Files.device c.args.work.now) (g.W.Files.device c.firm-in-Halted.new.work) c.firm-in-Halted.result)
    (sym c.in-Halted.is) (concluded_by g.W.Files.act c.args.removed.now (Halted c.in-Halted.fault) _ _ _ refl c.firm-in-Halted.ensures)

pub returns-in-Broken : goal.returns-in-Broken
returns-in-Broken g c = WasBroken (ap is_broken c.in-Broken.is) refl
