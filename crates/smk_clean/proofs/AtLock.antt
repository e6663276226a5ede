-- Looks and calls on the lock leave all but the lock as it stands.
use Rattle.std.proofs.Common.{Bool, true, false, List, [], ◌∷◌, refl, Result}
use Rattle.smk_base.specs.Place.{lock_place}
use Rattle.smk_world.specs.declared.event.Event.{Event}
use Rattle.smk_world.specs.declared.event.Failed.{Failed}
use Rattle.smk_world.specs.World.{run}
use Rattle.smk_world.specs.Devices.{Device, HasActed, HasEnded, HasLooked}
use Rattle.smk_world.specs.Requests.{Request, Carries}
use Rattle.smk_world.specs.Requests.Request.{Look, ReadUpTo, ListFolder, Write, Create, Remove, MakeParents, Settle, Protect, Start, Wait}
use Rattle.smk_world.specs.Trees.{Act, Each, Path}
use Rattle.smk_world.proofs.Devices.{acted_as, acted_then}
use Rattle.smk_keep_lock.specs.Locking.{HasTaken, HasReleased}
use Rattle.smk_run.proofs.Calls.{EachCall, cut_each, done_each}
use Rattle.smk_run.proofs.Ends.{acted_ended}
use Rattle.smk_laws_refusing.specs.Parts.{OnLock}
use Rattle.smk_laws_moments.proofs.QuietCalls.{IsQuiet}
use Rattle.smk_laws_refusing.specs.Leaving.{LeavesAllBut}
use Rattle.smk_laws_refusing.proofs.LeftAlone.{leaves_more, leaves_then, looks_leave, quiet_leaves}
use Rattle.smk_clean.proofs.Locked.{AreCalls, only_wider, releasing_calls, taking_calls}

lock_quiet : (r : Request) → OnLock r → IsQuiet r
lock_quiet (Look p) h = absurd h
lock_quiet (ReadUpTo p limit) h = absurd h
lock_quiet (ListFolder p) h = absurd h
lock_quiet (Write p bytes) h = absurd h
lock_quiet (Create p) h = tt
lock_quiet (Remove p) h = tt
lock_quiet (MakeParents p) h = tt
lock_quiet (Settle ps) h = tt
lock_quiet (Protect p) h = absurd h
lock_quiet (Start recipe logs command) h = absurd h
lock_quiet Wait h = absurd h

each_quiet : (rs : List Request) → Each OnLock rs → Each IsQuiet rs
each_quiet [] h = tt
each_quiet (r ∷ rs) h = (lock_quiet r h.0, each_quiet rs h.1)

carried_quiet : (rs : List Request) (ok : Bool) (es : List Event) → Each OnLock rs → Carries rs ok es → EachCall IsQuiet es
carried_quiet rs true es h c = done_each IsQuiet rs es (each_quiet rs h) c
carried_quiet rs false es h c = cut_each IsQuiet rs es (each_quiet rs h) c

calls_quiet : (es : List Event) → AreCalls es → EachCall IsQuiet es
calls_quiet es h = carried_quiet h.requests h.ok es h.on_lock h.carried

abbrev pub at_lock : List Path
at_lock = lock_place ∷ []

module _ {act : Act} where
  pub looks_only : {a b : Device} {f : Bool} → HasLooked act a b f → HasActed act (LeavesAllBut at_lock) a b f
  looks_only {a} {b} {f} h = acted_as act _ (LeavesAllBut at_lock) a b f f refl (λ w es looks. looks_leave at_lock f w es looks) h.acted

  pub taking_only : {a b : Device} {r : Result Bool Failed} {f : Bool} → HasActed act (HasTaken r) a b f → HasActed act (LeavesAllBut at_lock) a b f
  taking_only {a} {b} {r} {f} h =
      acted_as act (HasTaken r) (LeavesAllBut at_lock) a b f f refl
      (λ w es taken. quiet_leaves at_lock w es taken.only (calls_quiet es (taking_calls r w es taken.calls))) h

  pub releasing_only :
      {a b : Device} {r : Result (Unit {0}) Failed} {f : Bool} → HasActed act (HasReleased r) a b f → HasActed act (LeavesAllBut at_lock) a b f
  releasing_only {a} {b} {r} {f} h =
      acted_as act (HasReleased r) (LeavesAllBut at_lock) a b f f refl
      (λ w es gone. quiet_leaves at_lock w es (only_wider w (run w es) gone.only) (calls_quiet es (releasing_calls r w es gone))) h

  pub only_both :
      {a b c : Device} {f : Bool} →
      HasActed act (LeavesAllBut at_lock) a b false → HasActed act (LeavesAllBut at_lock) b c f → HasActed act (LeavesAllBut at_lock) a c f
  only_both {a} {b} {c} {f} first second =
      acted_then act (LeavesAllBut at_lock) (LeavesAllBut at_lock) (LeavesAllBut at_lock) a b c f
      (λ w es fs follows one follows2 two. leaves_then at_lock w es fs one two) first second

  -- and then a run that left all as it stood
  pub only_ended :
      {a b c : Device} {f : Bool} →
      HasActed act (LeavesAllBut at_lock) a b false → HasEnded act (LeavesAllBut []) b c f → HasEnded act (LeavesAllBut at_lock) a c f
  only_ended {a} {b} {c} {f} first second =
      acted_ended act (LeavesAllBut at_lock) (LeavesAllBut []) (LeavesAllBut at_lock) a b c f
      (λ w es fs follows one follows2 two. leaves_then at_lock w es fs one (leaves_more at_lock (run w es) fs two)) first second
