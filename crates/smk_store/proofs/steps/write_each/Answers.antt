use Rattle.std.proofs.Common.{[], ◌∷◌, ◌+◌, ◌<◌, arith, drop, length, get_or, refl, sym, ap}
use Rattle.smk_world.specs.Requests.Request.{MakeParents, Write}
use Rattle.smk_store.specs.Steps.{write_each}
use Rattle.smk_store.proofs.Writing.{write_around, write_next, same_there}
use Rattle.smk_world.proofs.Devices.{carried_as, carried_call, carried_then, carried_cut}
use Rattle.smk_store.proofs.steps.write_each.Goals as goal

pub returns-in_err-make_parents : goal.returns-in_err-make_parents
returns-in_err-make_parents g c =
    let ps = c.args.places.now in
    let bs = c.args.bytes.now in
    let i = c.loop-i.i in
    let p = c.index-places-i.result in
    let b = get_or bs i [] in
    let within : i < length bs = omega (arith, c.requires.each, c.loop-i-test.true) in
    carried_as (sym (write_around ps bs i p b c.loop-i-test.true within c.index-places-i.is (same_there bs i [] b within))) (sym c.from_residual.ensures.0)
    (carried_then c.loop-i.invariant (carried_cut (Write p b ∷ write_each (drop (i + 1) ps) (drop (i + 1) bs)) (carried_call (MakeParents p) refl refl c.in_err-make_parents.ensures)))

pub returns-in_err-write : goal.returns-in_err-write
returns-in_err-write g c =
    let ps = c.args.places.now in
    let bs = c.args.bytes.now in
    let i = c.loop-i.i in
    let p = c.index-places-i.result in
    let b = c.index-bytes-i.result in
    let within : i < length bs = omega (arith, c.requires.each, c.loop-i-test.true) in
    carried_as (sym (write_around ps bs i p b c.loop-i-test.true within c.index-places-i.is c.index-bytes-i.is)) (sym c.from_residual-in_err-write.ensures.0)
    (carried_then c.loop-i.invariant (carried_then (carried_call (MakeParents p) refl refl c.in_ok-make_parents.ensures)
    (carried_cut (write_each (drop (i + 1) ps) (drop (i + 1) bs)) (carried_call (Write p b) refl (ap (Write p) c.as_slice.ensures) c.in_err-write.ensures))))

pub loop-i-preserved : goal.loop-i-preserved
loop-i-preserved g c =
    let ps = c.args.places.now in
    let bs = c.args.bytes.now in
    let i = c.loop-i.i in
    let p = c.index-places-i.result in
    let b = c.index-bytes-i.result in
    let within : i < length bs = omega (arith, c.requires.each, c.loop-i-test.true) in
    carried_as (sym (write_next ps bs i p b c.loop-i-test.true within c.index-places-i.is c.index-bytes-i.is)) refl
    (carried_then c.loop-i.invariant (carried_then (carried_call (MakeParents p) refl refl c.in_ok-make_parents.ensures) (carried_call (Write p b) refl (ap (Write p) c.as_slice.ensures) c.in_ok-write.ensures)))
