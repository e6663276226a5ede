use Rattle.std.proofs.Common.{refl, sym, ◌∙◌}
use Rattle.smk_drive_hub.specs.Keeping.{parts_of}
use Rattle.smk_laws_begins.proofs.Concluding.{faulted_so}
use Rattle.smk_drive_run.proofs.driving.conclude.Goals as goal

pub returns-in-Some : goal.returns-in-Some
returns-in-Some g c =
    faulted_so c.args.settings.now.targets (parts_of c.args.hub.now) c.in-Some.fault _ (sym c.take_fault.ensures ∙ c.in-Some.is)

pub returns-in-None : goal.returns-in-None
returns-in-None g c = c.finish.ensures (parts_of c.args.hub.now) refl (sym c.take_tally-tally.ensures) (sym c.take_fault.ensures ∙ c.in-None.is)
