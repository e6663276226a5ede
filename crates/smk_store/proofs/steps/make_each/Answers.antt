use Rattle.std.proofs.Common.{[], ◌∷◌, refl, sym}
use Rattle.smk_world.specs.Requests.Request.{MakeParents, Create}
use Rattle.smk_world.proofs.Devices.{carried_as, carried_call, carried_then, carried_cut, each_cut, each_more}
use Rattle.smk_store.proofs.steps.make_each.Goals as goal

pub returns-in_err-make_parents : goal.returns-in_err-make_parents
returns-in_err-make_parents g c =
    let p = c.place-item.result in
    carried_as refl (sym c.from_residual.ensures.0)
    (each_cut (λ q. MakeParents q ∷ Create q ∷ []) c.args.places.now c.loop-place.place-index p c.loop-place-test.true c.place-item.is c.loop-place.invariant
    (carried_cut (Create p ∷ []) (carried_call (MakeParents p) refl refl c.in_err-make_parents.ensures)))

pub returns-in_err-create_new : goal.returns-in_err-create_new
returns-in_err-create_new g c =
    let p = c.place-item.result in
    carried_as refl (sym c.from_residual-in_err-create_new.ensures.0)
    (each_cut (λ q. MakeParents q ∷ Create q ∷ []) c.args.places.now c.loop-place.place-index p c.loop-place-test.true c.place-item.is c.loop-place.invariant
    (carried_then (carried_call (MakeParents p) refl refl c.in_ok-make_parents.ensures) (carried_call (Create p) refl refl c.in_err-create_new.ensures)))

pub loop-place-preserved : goal.loop-place-preserved
loop-place-preserved g c =
    let p = c.place-item.result in
    each_more (λ q. MakeParents q ∷ Create q ∷ []) c.args.places.now c.loop-place.place-index p c.loop-place-test.true c.place-item.is c.loop-place.invariant
    (carried_then (carried_call (MakeParents p) refl refl c.in_ok-make_parents.ensures) (carried_call (Create p) refl refl c.in_ok-create_new.ensures))
