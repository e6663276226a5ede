use Rattle.std.proofs.Common.{[], ◌∷◌, refl, sym, ap}
use Rattle.smk_world.specs.Requests.Request.{Settle}
use Rattle.smk_store.specs.Steps.{remove_each}
use Rattle.smk_world.proofs.Devices.{carried_as, carried_call, carried_then, carried_cut}
use Rattle.smk_keep.proofs.keeping.remove_all.Goals as goal

pub returns-in_err-remove_each : goal.returns-in_err-remove_each
returns-in_err-remove_each g c = carried_as refl (sym c.from_residual.ensures.0) (carried_cut (Settle c.args.places.now ∷ []) (carried_as (ap remove_each c.as_slice.ensures) refl c.in_err-remove_each.ensures))

pub returns : goal.returns
returns g c = carried_then (carried_as (ap remove_each c.as_slice.ensures) refl c.in_ok-remove_each.ensures) (carried_call (Settle c.args.places.now) refl refl c.settle.ensures)
