use Rattle.std.proofs.Common.{◌≢◌, ap, sym, subst, ◌∙◌}
use Rattle.smk_world.specs.declared.event.NodeState.TheVariants.{Owned}
use Rattle.smk_world.specs.World.{reading}
use Rattle.smk_world.proofs.Devices.{looked_on, looked_read}
use Rattle.smk_store.proofs.Looks.{found_told}
use Rattle.smk_digest.specs.Digests.{content_in, held}
use Rattle.smk_digest.proofs.Matched.{read_is}
use Rattle.smk_digest.proofs.reading.content_at.Goals as goal

pub returns-in_err-found-clause-looked : goal.returns-in_err-found-clause-looked
returns-in_err-found-clause-looked g c = looked_on _ c.in_err-found.was c.from_residual-in_err-found.ensures.1 (looked_read c.read.ensures)

pub returns-clause-looked : goal.returns-clause-looked
returns-clause-looked g c = looked_read c.in_ok-found.ensures

pub returns-clause-told : goal.returns-clause-told
returns-clause-told g c = λ w at free.
    c.held.ensures
    ∙ ap held (found_told w c.read.ensures c.in_ok-found.was at (subst (λ q. w.nodes q ≢ Owned) (sym c.in_ok-place.ensures) free))
    ∙ read_is (reading (w.nodes c.in_ok-place.place))
    ∙ ap (λ q. content_in (reading (w.nodes q))) c.in_ok-place.ensures
