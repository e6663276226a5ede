use Rattle.std.proofs.Common.{◌≢◌, ap, sym, subst, ◌∙◌}
use Rattle.smk_base.specs.Place.{record_place}
use Rattle.smk_base.proofs.Under.{at_when_under}
use Rattle.smk_world.specs.declared.event.NodeState.TheVariants.{Owned}
use Rattle.smk_world.specs.World.{reading}
use Rattle.smk_world.specs.Calls.{found_of, stat_of}
use Rattle.smk_world.proofs.Devices.{looked_failed, looked_memory, looked_on, looked_read, looked_stat, looked_then, still}
use Rattle.smk_store.specs.Loading.{store_folder}
use Rattle.smk_store.proofs.Looks.{found_told, stat_told}
use Rattle.smk_store.proofs.Loads.{record_under}
use Rattle.smk_drive_outcome.specs.Outcomes.{is_missing, kept_without}
use Rattle.smk_drive_outcome.proofs.Telling.{some_stands, without_is}
use Rattle.smk_drive_outcome.proofs.keeping.kept_at.Goals as goal

pub returns-in_err-found-clause-looked : goal.returns-in_err-found-clause-looked
returns-in_err-found-clause-looked g c = looked_on _ c.in_err-found.was c.from_residual-in_err-found.ensures.1 (looked_read c.read.ensures)

pub returns-in_err-stat-clause-looked : goal.returns-in_err-stat-clause-looked
returns-in_err-stat-clause-looked g c =
    looked_then (looked_read c.in_ok-found.ensures) (looked_failed _ c.in_err-stat.was c.from_residual-in_err-stat.ensures.1 (looked_stat c.stat.ensures))

pub returns-then-is_missing-clause-looked : goal.returns-then-is_missing-clause-looked
returns-then-is_missing-clause-looked g c = looked_then (looked_read c.in_ok-found.ensures) (looked_stat c.in_ok-stat.ensures)

pub returns-then-is_missing-clause-told : goal.returns-then-is_missing-clause-told
returns-then-is_missing-clause-told g c = λ w at free read reads.
    let p = record_place c.args.path.now in
    let own : w.nodes c.in_ok-place.place ≢ Owned =
    subst (λ q. w.nodes q ≢ Owned) (sym c.in_ok-place.ensures) (free p (at_when_under p store_folder (record_under c.args.path.now))) in
    let found = found_told w c.read.ensures c.in_ok-found.was at own ∙ ap (λ q. found_of 33554432 (reading (w.nodes q))) c.in_ok-place.ensures in
    let u = still w (looked_read c.in_ok-found.ensures) at in
    let stat =
    stat_told u.0 c.stat.ensures c.in_ok-stat.was u.1 (subst (λ n. n c.in_ok-place.place ≢ Owned) (sym u.2) own)
    ∙ ap (λ n. stat_of (reading (n c.in_ok-place.place))) u.2
    ∙ ap (λ q. stat_of (reading (w.nodes q))) c.in_ok-place.ensures in
    c.kept_without.ensures
    ∙ ap kept_without stat
    ∙ without_is read c.args.path.now (reading (w.nodes p)) (ap is_missing (sym found) ∙ sym c.is_missing.ensures ∙ c.if-is_missing.true)

pub returns-in_err-kept_found-clause-looked : goal.returns-in_err-kept_found-clause-looked
returns-in_err-kept_found-clause-looked g c = looked_memory _ c.from_residual-in_err-kept_found.ensures.1 (looked_read c.in_ok-found.ensures)

pub returns-clause-looked : goal.returns-clause-looked
returns-clause-looked g c = looked_read c.in_ok-found.ensures

pub returns-clause-told : goal.returns-clause-told
returns-clause-told g c = λ w at free read reads.
    let p = record_place c.args.path.now in
    let own : w.nodes c.in_ok-place.place ≢ Owned =
    subst (λ q. w.nodes q ≢ Owned) (sym c.in_ok-place.ensures) (free p (at_when_under p store_folder (record_under c.args.path.now))) in
    let found = found_told w c.read.ensures c.in_ok-found.was at own ∙ ap (λ q. found_of 33554432 (reading (w.nodes q))) c.in_ok-place.ensures in
    c.in_ok-kept_found.ensures read reads (reading (w.nodes p))
    (some_stands (reading (w.nodes p)) (ap is_missing (sym found) ∙ sym c.is_missing.ensures ∙ c.if-is_missing.false)) found
