-- Calls on the lock are moves of the protocol.
use Rattle.std.proofs.Common.{◌≡◌, true, false, List, [], ◌∷◌, sym, subst, Ok, Err, true≢false}
use Rattle.std.specs.Prelude.{filter}
use Rattle.smk_world.specs.declared.event.Call.{Call}
use Rattle.smk_world.specs.declared.event.Call.TheVariants.{Looked, ReadFile, ReadFolder, Written, Created, Removed, MadeParents, Settled, Protected, Started, Waited}
use Rattle.smk_world.specs.declared.event.Event.{Event}
use Rattle.smk_world.specs.Calls.{failed}
use Rattle.smk_world.specs.Requests.{Request, request, HasDone, IsCutShort}
use Rattle.smk_world.specs.Trees.{Each}
use Rattle.smk_world.specs.World.{World, after}
use Rattle.smk_store.specs.Soundness.{Outside}
use Rattle.smk_laws_protocol.specs.Protocol.{RunState, Runs, Done, Next, Aside, Besides, Lock as LockMove, Settle as SettleMove, Fail, as_ok, runs}
use Rattle.smk_laws_refusing.specs.Parts.{LockCallsAreRuns, OnLock}

module _ (o : Outside) (s : RunState) (calm : s.faulted ≡ false) where
  -- after a call that failed
  abbrev broken : RunState
  broken = record s { jobs = filter (runs o) s.jobs; faulted = true }

  -- as it is when it succeeds, it is a move of no job
  moved : (w : World) (call : Call) → OnLock (request call) → Besides o s w (as_ok call)
  moved w (Looked p r) h = absurd h
  moved w (ReadFile p limit r) h = absurd h
  moved w (ReadFolder p r) h = absurd h
  moved w (Written p bytes r) h = absurd h
  moved w (Created p r) h = LockMove (Created p (Ok true)) h
  moved w (Removed p r) h = LockMove (Removed p (Ok tt)) h
  moved w (MadeParents p r) h = LockMove (MadeParents p (Ok tt)) h
  moved w (Settled ps r) h = SettleMove ps
  moved w (Protected p r) h = absurd h
  moved w (Started recipe logs command r) h = absurd h
  moved w (Waited r) h = absurd h

  -- and as it is where it did
  moved_now : (w : World) (call : Call) → OnLock (request call) → failed call ≡ false → Besides o s w call
  moved_now w (Looked p r) h quiet = absurd h
  moved_now w (ReadFile p limit r) h quiet = absurd h
  moved_now w (ReadFolder p r) h quiet = absurd h
  moved_now w (Written p bytes r) h quiet = absurd h
  moved_now w (Created p r) h quiet = LockMove (Created p r) h
  moved_now w (Removed p r) h quiet = LockMove (Removed p r) h
  moved_now w (MadeParents p r) h quiet = LockMove (MadeParents p r) h
  moved_now w (Settled ps (Ok u)) h quiet = SettleMove ps
  moved_now w (Settled ps (Err x)) h quiet = absurd (true≢false quiet)
  moved_now w (Protected p r) h quiet = absurd h
  moved_now w (Started recipe logs command r) h quiet = absurd h
  moved_now w (Waited r) h quiet = absurd h

  one : (w : World) (e : Event) (es : List Event) (end : RunState) → OnLock (request e.call) → failed e.call ≡ false → Runs o s (after w e) es end →
      Runs o s w (e ∷ es) end
  one w e es end on quiet more = Next s s end w e es (Aside e calm (moved_now w e.call on quiet)) more

  done : (rs : List Request) (w : World) (es : List Event) → Each OnLock rs → HasDone rs es → Runs o s w es s
  done [] w [] each h = Done s w
  done [] w (e ∷ es) each h = absurd h
  done (r ∷ rs) w [] each h = absurd h
  done (r ∷ rs) w (e ∷ es) each h = one w e es s (subst OnLock (sym h.0) each.0) h.1 (done rs (after w e) es each.1 h.2)

  cut : (rs : List Request) (w : World) (es : List Event) → Each OnLock rs → IsCutShort rs es → Runs o s w es broken
  cut [] w es each h = absurd h
  cut (r ∷ rs) w [] each h = absurd h
  cut (r ∷ rs) w (e ∷ []) each h =
      Next s broken broken w e []
      (Fail e s h.1 (Aside (record e { call = as_ok e.call }) calm (moved w e.call (subst OnLock (sym h.0) each.0))))
      (Done broken (after w e))
  cut (r ∷ rs) w (e ∷ (f ∷ es)) each h = one w e (f ∷ es) broken (subst OnLock (sym h.0) each.0) h.1 (cut rs (after w e) (f ∷ es) each.1 h.2)

pub lock_done : (o : Outside) (rs : List Request) (s : RunState) (w : World) (es : List Event) → s.faulted ≡ false → Each OnLock rs → HasDone rs es →
    Runs o s w es s
lock_done o rs s w es calm each h = done o s calm rs w es each h

pub lock_calls_are_runs : LockCallsAreRuns
lock_calls_are_runs o rs true s w es calm each h = (s, done o s calm rs w es each h)
lock_calls_are_runs o rs false s w es calm each h = (broken o s calm, cut o s calm rs w es each h)
