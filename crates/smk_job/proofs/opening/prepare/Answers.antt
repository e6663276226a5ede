use Rattle.std.proofs.Common.{refl, sym, ap, subst}
use Rattle.smk_world.proofs.Devices.{carried_as, carried_then, carried_cut, unused_still}
use Rattle.smk_store.specs.Steps.{AreUnused}
use Rattle.smk_job.specs.Jobs.{clear_requests}
use Rattle.smk_job.proofs.opening.prepare.Goals as goal

pub clear-requires : goal.clear-requires
clear-requires g c = record { unused = subst (AreUnused (g.W.Files.device c.mark.new.work)) (sym c.as_slice.ensures) (unused_still c.args.places.now.outputs c.in_ok-mark.ensures.acted c.requires.unused) }

pub returns-in_err-mark : goal.returns-in_err-mark
returns-in_err-mark g c =
    carried_as refl (sym c.from_residual.ensures.0) (carried_cut (clear_requests c.args.places.now.outputs c.args.owned.now) c.in_err-mark.ensures)

pub returns : goal.returns
returns g c = carried_then c.in_ok-mark.ensures (carried_as (ap (λ ps. clear_requests ps c.args.owned.now) c.as_slice.ensures) refl c.clear.ensures)
