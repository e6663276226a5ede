use Rattle.std.proofs.Common.{refl, sym, ap, subst}
use Rattle.smk_world.proofs.Devices.{carried_as, carried_then, carried_cut, unused_still}
use Rattle.smk_store.specs.Steps.{AreUnused, remove_each, drop_requests}
use Rattle.smk_job.proofs.steps.drop_each.Goals as goal

pub remove_each-requires : goal.remove_each-requires
remove_each-requires g c = record { unused = subst (AreUnused (g.W.Files.device c.args.work.now)) (sym c.as_slice.ensures) (λ w at. (c.requires.unused w at).outputs) }

pub drop_records-requires : goal.drop_records-requires
drop_records-requires g c = record { unused = unused_still c.args.places.now.records c.in_ok-remove_each.ensures.acted (λ w at. (c.requires.unused w at).records) }

pub returns-in_err-remove_each : goal.returns-in_err-remove_each
returns-in_err-remove_each g c =
    carried_as refl (sym c.from_residual.ensures.0) (carried_cut (drop_requests c.args.places.now) (carried_as (ap remove_each c.as_slice.ensures) refl c.in_err-remove_each.ensures))

pub returns : goal.returns
returns g c = carried_then (carried_as (ap remove_each c.as_slice.ensures) refl c.in_ok-remove_each.ensures) c.drop_records.ensures
