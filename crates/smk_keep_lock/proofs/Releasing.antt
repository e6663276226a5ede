-- The lock that is released.
use Rattle.std.proofs.Common.{◌≡◌, ◌⊎◌, inl, inr, true, false, not, List, [], ◌∷◌, refl, sym, ap, subst, ◌∙◌, None, Result, Ok, Err, arith}
use Rattle.std.specs.Prelude.{is_err}
use Rattle.smk_base.specs.Place.{lock_place}
use Rattle.smk_world.specs.declared.event.Event.{Event}
use Rattle.smk_world.specs.declared.event.Failed.{Failed}
use Rattle.smk_world.specs.declared.event.NodeState.{NodeState}
use Rattle.smk_world.specs.declared.event.NodeState.TheVariants.{Owned, Known}
use Rattle.smk_world.specs.Calls.{Lets}
use Rattle.smk_world.specs.Requests.{Request, HasDone, Carries}
use Rattle.smk_world.specs.Requests.Request.{Remove, Settle}
use Rattle.smk_world.specs.Runs.{Follows}
use Rattle.smk_world.specs.Trees.{Act, Each}
use Rattle.smk_world.specs.World.{World, after, run, reading, going, standing, node_after}
use Rattle.smk_store.specs.Steps.{unlock_requests}
use Rattle.smk_keep_lock.specs.declared.fault.UnlockFault.{UnlockFault}
use Rattle.smk_keep_lock.specs.declared.fault.UnlockFault.TheVariants.{Device, Output, OutOfMemory}
use Rattle.smk_keep_lock.specs.Locking.{HasReleased}
use Rattle.smk_keep_lock.specs.Unlocking.{HasRemoved, is_device}
use Rattle.smk_keep_lock.proofs.Named.{removed_call}
use Rattle.smk_keep_lock.proofs.Staying.{KeepsTo, call_stays, carried_keep, changes_only, stays_itself}

pub going_none : (s : NodeState) → reading (going None s) ≡ None
going_none Owned = refl
going_none (Known now besides) = refl

abbrev removal : List Request
removal = Remove lock_place ∷ Settle (lock_place ∷ []) ∷ []

each_keeps : Each (KeepsTo (lock_place ∷ []) []) removal
each_keeps = (inl refl, (tt, tt))

module _ (act : Act) (w : World) where
  gone_now : (es : List Event) → Follows act w es → HasDone removal es → reading ((run w es).nodes lock_place) ≡ None
  gone_now [] follows h = absurd h
  gone_now (e1 ∷ []) follows h = absurd h.2
  gone_now (e1 ∷ (e2 ∷ (e3 ∷ es))) follows h = absurd h.2.2
  gone_now (e1 ∷ (e2 ∷ [])) follows h =
      let v = after w e1 in
      let c1 = removed_call e1.call lock_place h.0 h.1 in
      let left = subst (λ c. Lets act w c e1.left) c1 follows.0.lets in
      let first : v.nodes lock_place ≡ going None (w.nodes lock_place) =
      ap (λ c. node_after c e1.left w.children lock_place (w.nodes lock_place)) c1 ∙ ap (λ l. going (standing l lock_place) (w.nodes lock_place)) left in
      let second = (call_stays [] [] e2.left v.children lock_place (v.nodes lock_place) refl refl e2.call (subst (KeepsTo [] []) (sym h.2.0) tt)).0 in
      sym second ∙ ap reading first ∙ going_none (w.nodes lock_place)

  pub released : (result : Result (Unit {0}) Failed) (es : List Event) → Follows act w es → Carries (unlock_requests (lock_place ∷ [])) (not (is_err result)) es → HasReleased result w es
  released (Ok u) es follows h =
      record { calls = h; only = changes_only (lock_place ∷ []) [] w es (carried_keep (lock_place ∷ []) [] removal true es each_keeps h); gone = λ e. gone_now es follows h }
  released (Err x) es follows h =
      record { calls = h; only = changes_only (lock_place ∷ []) [] w es (carried_keep (lock_place ∷ []) [] removal false es each_keeps h); gone = λ e. absurd cc }

-- ## For `--unlock`

module _ (w : World) (es : List Event) where
  -- the lock is gone, and its line was put or not
  pub removed : (result : Result (Unit {0}) UnlockFault) → (result ≡ Ok tt) ⊎ (result ≡ Err Output) → HasReleased (Ok tt) w es → HasRemoved result w es
  removed (Ok u) is h = record { calls = h.calls; left = record { only = h.only; unlocked = λ e. h.gone refl } }
  removed (Err Output) is h = record { calls = h.calls; left = record { only = h.only; unlocked = λ e. h.gone refl } }
  removed (Err Device) (inl e) h = absurd cc
  removed (Err Device) (inr e) h = absurd cc
  removed (Err OutOfMemory) (inl e) h = absurd cc
  removed (Err OutOfMemory) (inr e) h = absurd cc

  pub not_removed : (x : Failed) → HasReleased (Err x) w es → HasRemoved (Err Device) w es
  not_removed x h = record { calls = h.calls; left = record { only = h.only; unlocked = λ e. absurd (omega (arith, e)) } }

pub none_removed : (w : World) → HasRemoved (Err OutOfMemory) w []
none_removed w = record { calls = refl; left = record { only = λ q out off. stays_itself (w.nodes q); unlocked = λ e. absurd (omega (arith, e)) } }

-- a put doesn't fail the device
pub put_device : (result : Result (Unit {0}) UnlockFault) → (result ≡ Ok tt) ⊎ (result ≡ Err Output) → false ≡ is_device result
put_device (Ok u) is = refl
put_device (Err Output) is = refl
put_device (Err Device) (inl e) = absurd cc
put_device (Err Device) (inr e) = absurd cc
put_device (Err OutOfMemory) is = refl
