use Rattle.std.proofs.Common.{[], ◌∷◌, refl, sym, ap}
use Rattle.smk_world.specs.Requests.Request.{Settle}
use Rattle.smk_keep.specs.Keeping.{protect_each}
use Rattle.smk_world.proofs.Devices.{carried_as, carried_call, carried_then, carried_cut}
use Rattle.smk_keep.proofs.keeping.protect_all.Goals as goal

pub returns-in_err-protect_each : goal.returns-in_err-protect_each
returns-in_err-protect_each g c = carried_as refl (sym c.from_residual.ensures.0) (carried_cut (Settle c.args.places.now ∷ []) (carried_as (ap protect_each c.as_slice.ensures) refl c.in_err-protect_each.ensures))

pub returns : goal.returns
returns g c = carried_then (carried_as (ap protect_each c.as_slice.ensures) refl c.in_ok-protect_each.ensures) (carried_call (Settle c.args.places.now) refl refl c.settle.ensures)
