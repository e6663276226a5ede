use Rattle.std.proofs.Common.{[], ◌∷◌, refl, ap, ◌∙◌, not}
use Rattle.std.specs.Prelude.{is_err}
use Rattle.smk_base.specs.Place.{lock_place}
use Rattle.smk_world.specs.Requests.{Carries}
use Rattle.smk_world.proofs.Devices.{carried_as}
use Rattle.smk_store.specs.Steps.{unlock_requests}
use Rattle.smk_store.proofs.Idle.{all_unused}
use Rattle.smk_keep_lock.specs.Locking.{HasReleased}
use Rattle.smk_keep_lock.proofs.Acting.{acted_more}
use Rattle.smk_keep_lock.proofs.Releasing.{released}
use Rattle.smk_keep_lock.proofs.locking.Lock.release.Goals as goal

pub unlock-requires-clause-unused : goal.unlock-requires-clause-unused
unlock-requires-clause-unused g c = λ w at. all_unused w c.self.inside.places ((g.met.W.Files.sound c.args.work.now).same_numbers w at ∙ c.requires.none_runs)

pub returns : goal.returns
returns g c =
    let result = c.unlock.result in
    acted_more g.W.Files.act (λ w es. Carries (unlock_requests (lock_place ∷ [])) (not (is_err result)) es) (HasReleased result) _ _ _ _ refl
    (λ w at es follows h. released g.W.Files.act w result es follows h) (carried_as (ap unlock_requests c.self.invariant) refl c.unlock.ensures).acted
