-- Moves of the protocol of forgetting.
use Rattle.std.proofs.Common.{◌≡◌, Bool, true, false, List, [], ◌∷◌, ◌++◌, refl, sym, ap, subst, ◌∙◌, Option, Some, None, Ok, Err, true≢false}
use Rattle.std.specs.Prelude.{if◌then◌else◌}
use Rattle.smk_base.specs.Place.{lock_place}
use Rattle.smk_world.specs.declared.event.Call.{Call}
use Rattle.smk_world.specs.declared.event.Call.TheVariants.{Looked, ReadFile, ReadFolder, Written, Created, Removed, MadeParents, Settled, Protected, Started, Waited}
use Rattle.smk_world.specs.declared.event.Change.{Change}
use Rattle.smk_world.specs.declared.event.Child.{Child}
use Rattle.smk_world.specs.declared.event.Event.{Event}
use Rattle.smk_world.specs.declared.event.Node.{Node}
use Rattle.smk_world.specs.declared.event.NodeState.{NodeState}
use Rattle.smk_world.specs.declared.event.NodeState.TheVariants.{Owned, Known}
use Rattle.smk_world.specs.Calls.{failed}
use Rattle.smk_world.specs.Devices.{AreLooks, is_look}
use Rattle.smk_world.specs.Requests.{Request, request, HasDone, IsCutShort, Carries}
use Rattle.smk_world.specs.Requests.Request.{Look, ReadUpTo, ListFolder, Write, Create, Remove, MakeParents, Settle, Protect, Start, Wait}
use Rattle.smk_world.specs.Trees.{Path, Each}
use Rattle.smk_world.specs.World.{World, after, run, loose, going, firm, with_folder, standing, node_after}
use Rattle.smk_store.specs.Soundness.{Outside}
use Rattle.smk_store.specs.Unowned.{NoneOwned}
use Rattle.smk_keep_lock.proofs.Staying.{AllKeepTo, KeepsTo}
use Rattle.smk_laws_protocol.specs.Forgetting.{Stage, Resting, Stopped, Forgets, Look as LookMove, Lock as LockMove, Settle as SettleMove, Fail, ForgetsAll, Done, Next}
use Rattle.smk_laws_protocol.specs.Protocol.{IsLook, IsLock, as_ok}

-- ## No child owns a place

unowned_if : (b : Bool) (s t : NodeState) → (s ≡ Owned → ⊥) → (t ≡ Owned → ⊥) → (if b then t else s) ≡ Owned → ⊥
unowned_if true s t h k = k
unowned_if false s t h k = h

loose_unowned : (n : Option Node) (s : NodeState) → (s ≡ Owned → ⊥) → loose n s ≡ Owned → ⊥
loose_unowned n Owned h e = h refl
loose_unowned n (Known now besides) h e = cc

going_unowned : (n : Option Node) (s : NodeState) → (s ≡ Owned → ⊥) → going n s ≡ Owned → ⊥
going_unowned n Owned h e = h refl
going_unowned n (Known now besides) h e = cc

folder_unowned : (s : NodeState) → (s ≡ Owned → ⊥) → with_folder s ≡ Owned → ⊥
folder_unowned Owned h e = h refl
folder_unowned (Known None besides) h e = cc
folder_unowned (Known (Some n) besides) h e = cc

firm_unowned : (s : NodeState) → (s ≡ Owned → ⊥) → firm s ≡ Owned → ⊥
firm_unowned Owned h e = h refl
firm_unowned (Known now besides) h e = cc

call_unowned : (places below : List Path) (call : Call) (left : List Change) (cs : List Child) (q : Path) (s : NodeState) → KeepsTo places below (request call) → (s ≡ Owned → ⊥) → node_after call left cs q s ≡ Owned → ⊥
call_unowned places below (Looked p r) left cs q s k h = h
call_unowned places below (ReadFile p limit r) left cs q s k h = h
call_unowned places below (ReadFolder p r) left cs q s k h = h
call_unowned places below (Written p bytes r) left cs q s k h = absurd k
call_unowned places below (Created p (Ok made)) left cs q s k h = unowned_if _ s (loose (standing left q) s) h (loose_unowned (standing left q) s h)
call_unowned places below (Created p (Err e)) left cs q s k h = unowned_if _ s (loose (standing left q) s) h (loose_unowned (standing left q) s h)
call_unowned places below (Removed p r) left cs q s k h = unowned_if _ s (going (standing left q) s) h (going_unowned (standing left q) s h)
call_unowned places below (MadeParents p (Ok u)) left cs q s k h = unowned_if _ s (with_folder s) h (folder_unowned s h)
call_unowned places below (MadeParents p (Err e)) left cs q s k h = unowned_if _ s (with_folder s) h (folder_unowned s h)
call_unowned places below (Settled ps (Ok u)) left cs q s k h = unowned_if _ s (firm s) h (firm_unowned s h)
call_unowned places below (Settled ps (Err e)) left cs q s k h = h
call_unowned places below (Protected p r) left cs q s k h = absurd k
call_unowned places below (Started recipe logs command r) left cs q s k h = absurd k
call_unowned places below (Waited r) left cs q s k h = absurd k

pub none_owned_after : (places below : List Path) (w : World) (es : List Event) → AllKeepTo places below es → NoneOwned w → NoneOwned (run w es)
none_owned_after places below w [] h free = free
none_owned_after places below w (e ∷ es) h free =
    none_owned_after places below (after w e) es h.1 (λ q. call_unowned places below e.call e.left w.children q (w.nodes q) h.0 (free q))

-- ## Moves

module _ (o : Outside) (paths : List Path) where
  pub moves_then : (s mid end : Stage) (w : World) (es fs : List Event) → ForgetsAll o paths s w es mid → ForgetsAll o paths mid (run w es) fs end → ForgetsAll o paths s w (es ++ fs) end
  moves_then s mid end w [] fs (Done _ _) k = k
  moves_then s mid end w (e ∷ es) fs (Next _ next _ _ _ _ move more) k = Next s next end w e (es ++ fs) move (moves_then next mid end (after w e) es fs more k)

  -- it ends somewhere; at rest where no call failed
  abbrev pub EndsAt : Bool → World → List Event → Type 0
  EndsAt ok w es = (stage : Stage) × ForgetsAll o paths Resting w es stage × (ok ≡ true → stage ≡ Resting)

  look_move : (call : Call) → is_look call ≡ true → IsLook o call
  look_move (Looked x r) h = tt
  look_move (ReadFile x limit r) h = tt
  look_move (ReadFolder x r) h = tt
  look_move (Written x bytes r) h = absurd (true≢false (sym h))
  look_move (Created x r) h = absurd (true≢false (sym h))
  look_move (Removed x r) h = absurd (true≢false (sym h))
  look_move (MadeParents x r) h = absurd (true≢false (sym h))
  look_move (Settled xs r) h = absurd (true≢false (sym h))
  look_move (Protected x r) h = absurd (true≢false (sym h))
  look_move (Started recipe logs command r) h = absurd (true≢false (sym h))
  look_move (Waited r) h = absurd (true≢false (sym h))

  pub looks_rest : (f : Bool) (w : World) (es : List Event) → AreLooks f es → ForgetsAll o paths Resting w es Resting
  looks_rest f w [] h = Done Resting w
  looks_rest f w (e ∷ []) h = Next Resting Resting Resting w e [] (LookMove Resting e (look_move e.call h.0)) (Done Resting (after w e))
  looks_rest f w (e ∷ (g ∷ es)) h = Next Resting Resting Resting w e (g ∷ es) (LookMove Resting e (look_move e.call h.0)) (looks_rest f (after w e) (g ∷ es) h.2)

  -- ## The lock

  -- a call on the lock, or a settling
  abbrev pub OnLock : Request → Type 0
  OnLock (Look p) = ⊥
  OnLock (ReadUpTo p limit) = ⊥
  OnLock (ListFolder p) = ⊥
  OnLock (Write p bytes) = ⊥
  OnLock (Create p) = p ≡ lock_place
  OnLock (Remove p) = p ≡ lock_place
  OnLock (MakeParents p) = p ≡ lock_place
  OnLock (Settle ps) = Unit {0}
  OnLock (Protect p) = ⊥
  OnLock (Start recipe logs command) = ⊥
  OnLock Wait = ⊥

  abbrev Moved : World → Event → Type 0
  Moved w e = (stage : Stage) × Forgets o paths w Resting e stage × (failed e.call ≡ false → stage ≡ Resting)

  on_lock : (w : World) (e : Event) (call : Call) → e.call ≡ call → OnLock (request call) → Moved w e
  on_lock w e (Looked p r) is h = absurd h
  on_lock w e (ReadFile p limit r) is h = absurd h
  on_lock w e (ReadFolder p r) is h = absurd h
  on_lock w e (Written p bytes r) is h = absurd h
  on_lock w e (Created p r) is h = (Resting, LockMove e (subst (IsLock o) (sym is) h), λ quiet. refl)
  on_lock w e (Removed p r) is h = (Resting, LockMove e (subst (IsLock o) (sym is) h), λ quiet. refl)
  on_lock w e (MadeParents p r) is h = (Resting, LockMove e (subst (IsLock o) (sym is) h), λ quiet. refl)
  on_lock w e (Settled ps (Ok u)) is h = (Resting, SettleMove e ps is, λ quiet. refl)
  on_lock w e (Settled ps (Err x)) is h =
      (Stopped, Fail Resting Resting e (ap failed is) (SettleMove (record e { call = as_ok e.call }) ps (ap as_ok is)), λ quiet. absurd (true≢false (sym (ap failed is) ∙ quiet)))
  on_lock w e (Protected p r) is h = absurd h
  on_lock w e (Started recipe logs command r) is h = absurd h
  on_lock w e (Waited r) is h = absurd h

  move_of : (w : World) (e : Event) (r : Request) → request e.call ≡ r → OnLock r → Moved w e
  move_of w e r is h = on_lock w e e.call refl (subst OnLock (sym is) h)

  pub lock_moves : (rs : List Request) (ok : Bool) (w : World) (es : List Event) → Each OnLock rs → Carries rs ok es → EndsAt ok w es
  lock_moves rs true w es each h = (Resting, done rs w es each h, λ e. refl)
    where
      rest : (w : World) (e : Event) (es : List Event) → Moved w e → failed e.call ≡ false → ForgetsAll o paths Resting (after w e) es Resting → ForgetsAll o paths Resting w (e ∷ es) Resting
      rest w e es m quiet more =
          Next Resting Resting Resting w e es (subst (λ s. Forgets o paths w Resting e s) (m.2 quiet) m.1) more

      done : (rs : List Request) (w : World) (es : List Event) → Each OnLock rs → HasDone rs es → ForgetsAll o paths Resting w es Resting
      done [] w [] each h = Done Resting w
      done [] w (e ∷ es) each h = absurd h
      done (r ∷ rs) w [] each h = absurd h
      done (r ∷ rs) w (e ∷ es) each h = rest w e es (move_of w e r h.0 each.0) h.1 (done rs (after w e) es each.1 h.2)
  lock_moves rs false w es each h = let c = cut rs w es each h in (c.0, c.1, λ e. absurd (true≢false (sym e)))
    where
      cut : (rs : List Request) (w : World) (es : List Event) → Each OnLock rs → IsCutShort rs es → (stage : Stage) × ForgetsAll o paths Resting w es stage
      cut [] w es each h = absurd h
      cut (r ∷ rs) w [] each h = absurd h
      cut (r ∷ rs) w (e ∷ []) each h =
          let m = move_of w e r h.0 each.0 in
          (m.0, Next Resting m.0 m.0 w e [] m.1 (Done m.0 (after w e)))
      cut (r ∷ rs) w (e ∷ (f ∷ es)) each h =
          let m = move_of w e r h.0 each.0 in
          let c = cut rs (after w e) (f ∷ es) each.1 h.2 in
          (c.0, Next Resting Resting c.0 w e (f ∷ es) (subst (λ s. Forgets o paths w Resting e s) (m.2 h.1) m.1) c.1)

  -- one after another
  pub ends_then : (ok : Bool) (w : World) (es fs : List Event) → EndsAt true w es → EndsAt ok (run w es) fs → EndsAt ok w (es ++ fs)
  ends_then ok w es fs first second =
      (second.0, moves_then Resting Resting second.0 w es fs (subst (λ s. ForgetsAll o paths Resting w es s) (first.2 refl) first.1) second.1, second.2)
