use Rattle.std.proofs.Common.{[], ◌∷◌, refl, sym, ap}
use Rattle.smk_world.specs.Requests.Request.{Settle}
use Rattle.smk_store.specs.Steps.{make_each}
use Rattle.smk_world.proofs.Devices.{carried_as, carried_call, carried_then, carried_cut}
use Rattle.smk_store.proofs.steps.mark.Goals as goal

pub returns-in_err-make_each : goal.returns-in_err-make_each
returns-in_err-make_each g c = carried_as refl (sym c.from_residual.ensures.0) (carried_cut (Settle c.args.places.now.marking ∷ []) (carried_as (ap make_each c.as_slice.ensures) refl c.in_err-make_each.ensures))

pub returns : goal.returns
returns g c = carried_then (carried_as (ap make_each c.as_slice.ensures) refl c.in_ok-make_each.ensures) (carried_call (Settle c.args.places.now.marking) refl refl c.settle.ensures)
