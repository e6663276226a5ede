-- What becomes of the lock, and of all else, where it is taken or released.
use Rattle.std.specs.Prelude.{◌≡◌, Bool, true, false, List, [], ◌∷◌, None, Result, Ok, IsSome, is_ok}
use Rattle.smk_base.specs.Place.{lock_place}
use Rattle.smk_world.specs.declared.event.Event.{Event}
use Rattle.smk_world.specs.declared.event.Failed.{Failed}
use Rattle.smk_world.specs.World.{World, run, reading}
use Rattle.smk_world.specs.Requests.{Carries}
use Rattle.smk_store.specs.Steps.{HasLocked, unlock_requests}
use Rattle.smk_keep_lock.specs.Changing.{IsSame, ChangesOnly}

-- The lock was tried: these calls came, which change nothing but it and the folders above it. It is taken where it didn't stand and does
-- now; where it stood, all is as it was.
pub record HasTaken (result : Result Bool Failed) (entry : World) (log : List Event) : Type 0 where
  pub calls : HasLocked result entry log
  pub only : ChangesOnly (lock_place ∷ []) (lock_place ∷ []) entry (run entry log)
  pub taken : result ≡ Ok true → (reading (entry.nodes lock_place) ≡ None) × IsSome (reading ((run entry log).nodes lock_place))
  pub stood : result ≡ Ok false → IsSome (reading (entry.nodes lock_place)) × IsSame entry (run entry log)

-- The lock was released: these calls came, which change nothing but it; none stands then.
pub record HasReleased (result : Result (Unit {0}) Failed) (entry : World) (log : List Event) : Type 0 where
  pub calls : Carries (unlock_requests (lock_place ∷ [])) (is_ok result) log
  pub only : ChangesOnly (lock_place ∷ []) [] entry (run entry log)
  pub gone : is_ok result ≡ true → reading ((run entry log).nodes lock_place) ≡ None
