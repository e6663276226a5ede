use Rattle.std.proofs.Common.{◌≡◌, ◌≢◌, subst, sym}
use Rattle.smk_base.specs.Place.{record_place}
use Rattle.smk_base.proofs.Under.{at_when_under}
use Rattle.smk_world.specs.declared.event.NodeState.TheVariants.{Owned}
use Rattle.smk_world.specs.World.{reading}
use Rattle.smk_world.specs.Calls.{found_of}
use Rattle.smk_world.proofs.Devices.{looked_read, looked_on, looked_memory}
use Rattle.smk_store.specs.Loading.{store_folder}
use Rattle.smk_store.proofs.Looks.{found_told}
use Rattle.smk_store.proofs.Loads.{record_under}
use Rattle.smk_store.proofs.loading.kept_at.Goals as goal

pub returns-in_err-found-clause-looked : goal.returns-in_err-found-clause-looked
returns-in_err-found-clause-looked g c = looked_on _ c.in_err-found.was c.from_residual-in_err-found.ensures.1 (looked_read c.read.ensures)

pub returns-in_err-kept_found-clause-looked : goal.returns-in_err-kept_found-clause-looked
returns-in_err-kept_found-clause-looked g c = looked_memory _ c.from_residual-in_err-kept_found.ensures.1 (looked_read c.in_ok-found.ensures)

pub returns-clause-looked : goal.returns-clause-looked
returns-clause-looked g c = looked_read c.in_ok-found.ensures

pub returns-clause-told : goal.returns-clause-told
returns-clause-told g c = λ w at free some read reads.
    c.in_ok-kept_found.ensures read reads (reading (w.nodes (record_place c.args.path.now))) some
    (subst (λ q. c.in_ok-found.found ≡ found_of 33554432 (reading (w.nodes q))) c.in_ok-place.ensures
    (found_told w c.read.ensures c.in_ok-found.was at
    (subst (λ q. w.nodes q ≢ Owned) (sym c.in_ok-place.ensures) (free (record_place c.args.path.now) (at_when_under (record_place c.args.path.now) store_folder (record_under c.args.path.now))))))
