use Rattle.std.proofs.Common.{[], ◌∷◌, ◌++◌, refl, sym}
use Rattle.smk_world.specs.Requests.Request.{Settle}
use Rattle.smk_world.proofs.Devices.{carried_as, carried_call, carried_then, carried_cut}
use Rattle.smk_store.specs.Steps.{remove_each}
use Rattle.smk_store.proofs.forgetting.clear_all.Goals as goal

pub returns-in_err-settle : goal.returns-in_err-settle
returns-in_err-settle g c =
    let places = c.args.places.now in
    let first = remove_each places.records ++ Settle places.records ∷ [] in
    let second = remove_each places.marks ++ Settle places.marks ∷ [] in
    carried_as refl (sym c.from_residual.ensures.0) (carried_cut (first ++ second) (carried_call (Settle places.around) refl refl c.in_err-settle.ensures))

pub returns-in_err-clear : goal.returns-in_err-clear
returns-in_err-clear g c =
    let places = c.args.places.now in
    carried_as refl (sym c.from_residual-in_err-clear.ensures.0)
    (carried_then (carried_call (Settle places.around) refl refl c.in_ok-settle.ensures) (carried_cut (remove_each places.marks ++ Settle places.marks ∷ []) c.in_err-clear.ensures))

pub returns : goal.returns
returns g c = carried_then (carried_call (Settle c.args.places.now.around) refl refl c.in_ok-settle.ensures) (carried_then c.in_ok-clear.ensures c.clear-2.ensures)
