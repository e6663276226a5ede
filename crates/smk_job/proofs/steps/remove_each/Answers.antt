use Rattle.std.proofs.Common.{[], ◌∷◌, ◌++◌, refl, sym}
use Rattle.smk_world.specs.Requests.Request.{Remove}
use Rattle.smk_world.proofs.Devices.{carried_as, carried_call, each_cut, each_more}
use Rattle.smk_job.proofs.steps.remove_each.Goals as goal

pub returns-in_err-remove : goal.returns-in_err-remove
returns-in_err-remove g c =
    let p = c.place-item.result in
    carried_as refl (sym c.from_residual.ensures.0)
    (each_cut (λ q. Remove q ∷ []) c.args.places.now c.loop-place.place-index p c.loop-place-test.true c.place-item.is c.loop-place.invariant (carried_call (Remove p) refl refl c.in_err-remove.ensures))

pub loop-place-preserved : goal.loop-place-preserved
loop-place-preserved g c =
    let p = c.place-item.result in
    each_more (λ q. Remove q ∷ []) c.args.places.now c.loop-place.place-index p c.loop-place-test.true c.place-item.is c.loop-place.invariant (carried_call (Remove p) refl refl c.in_ok-remove.ensures)
