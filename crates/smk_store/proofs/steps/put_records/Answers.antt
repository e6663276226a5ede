use Rattle.std.proofs.Common.{[], ◌∷◌, refl, sym, ap₂}
use Rattle.smk_world.specs.Requests.Request.{Settle}
use Rattle.smk_store.specs.Steps.{write_each}
use Rattle.smk_world.proofs.Devices.{carried_as, carried_call, carried_then, carried_cut}
use Rattle.smk_store.proofs.steps.put_records.Goals as goal

pub returns-in_err-write_each : goal.returns-in_err-write_each
returns-in_err-write_each g c =
    carried_as refl (sym c.from_residual.ensures.0) (carried_cut (Settle c.args.places.now.records ∷ []) (carried_as (ap₂ write_each c.as_slice.ensures c.as_slice-2.ensures) refl c.in_err-write_each.ensures))

pub returns : goal.returns
returns g c = carried_then (carried_as (ap₂ write_each c.as_slice.ensures c.as_slice-2.ensures) refl c.in_ok-write_each.ensures) (carried_call (Settle c.args.places.now.records) refl refl c.settle.ensures)
