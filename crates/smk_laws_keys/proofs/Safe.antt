-- What the commands do keeps the folder sound.
use Rattle.std.proofs.Common.{◌≡◌, inl, inr, Bool, true, false, not, List, [], ◌∷◌, ◌++◌, refl, sym, ap, subst, Result, Ok, Err, true≢false}
use Rattle.smk_laws_protocol.proofs.Stays.{in_right}
use Rattle.smk_base.specs.Place.{lock_place}
use Rattle.smk_world.specs.declared.event.Event.{Event}
use Rattle.smk_world.specs.declared.event.Failed.{Failed}
use Rattle.smk_world.specs.Requests.Request.{Create, Remove, MakeParents, Settle}
use Rattle.smk_world.specs.Runs.{Follows}
use Rattle.smk_world.specs.Trees.{Path, Act, IsIn, Each, is_path_text}
use Rattle.smk_world.specs.World.{World, run}
use Rattle.smk_store.specs.declared.fault.StoreFault.{StoreFault}
use Rattle.smk_store.specs.declared.fault.StoreFault.TheVariants as store
use Rattle.smk_store.specs.Safety.{KeepsSound}
use Rattle.smk_store.specs.Soundness.{Outside}
use Rattle.smk_store.specs.Steps.{HasLocked}
use Rattle.smk_store.specs.Unowned.{NoneOwned}
use Rattle.smk_keep_lock.specs.declared.fault.UnlockFault.TheVariants as unlock
use Rattle.smk_keep_lock.specs.Locking.{HasReleased}
use Rattle.smk_keep_lock.proofs.Staying.{AllKeepTo, carried_keep}
use Rattle.smk_keep_forget.specs.declared.fault.ForgetFault.{ForgetFault}
use Rattle.smk_keep_forget.specs.declared.fault.ForgetFault.TheVariants.{Locked, StampSeen, Device, Output, OutOfMemory}
use Rattle.smk_keep_forget.specs.Answers.{is_device}
use Rattle.smk_keep_forget.specs.Cleaning.{HasCleaned, Unheeded, Unmade, Untaken, Stood, Taken}
use Rattle.smk_keep_forget.specs.Steps.{HasEnded, Broken, Closed, Unclosed}
use Rattle.smk_keep_forget.specs.Turns.{IsTurn, HaveTurned, Looked, Turned, EndsSo, HasGone}
use Rattle.smk_keep_forget.proofs.Forgetting.{follows_rest}
use Rattle.smk_keep_forget.proofs.Going.{follows_first}
use Rattle.smk_laws_protocol.specs.Forgetting.{Stage, Resting, is_resting, ForgetsAll, Done}
use Rattle.smk_laws_protocol.proofs.ForgettingHolds.{forgetting_keeps_sound}
use Rattle.smk_laws_job.specs.Laws.{LeavesAt}
use Rattle.smk_laws_job.proofs.Forgetting.{forgetting_runs}
use Rattle.smk_laws_keys.specs.Keys.{outside, own_places, UnlockingIsSafe, CleaningIsSafe}
use Rattle.smk_laws_keys.proofs.Kept.{in_front, in_left, turned_keep}
use Rattle.smk_laws_keys.proofs.Moves.{EndsAt, ends_then, lock_moves, looks_rest, none_owned_after}

-- what keeps soundness wherever it ends, keeps it to the end where no call failed
kept_so : (o : Outside) (w : World) (log : List Event) (paths : List Path) (ok : Bool) → EndsAt o paths ok w log → Follows o.act w log → KeepsSound o w log paths ok
kept_so o w log paths ok ends follows = by ok ends.2 (forgetting_keeps_sound o w paths log ends.0 follows ends.1)
  where
    by : (ok : Bool) → (ok ≡ true → ends.0 ≡ Resting) → KeepsSound o w log paths (is_resting ends.0) → KeepsSound o w log paths ok
    by true rest k = subst (λ s. KeepsSound o w log paths (is_resting s)) (rest refl) k
    by false rest k = record { safe = k.safe; sound_at_exit = λ H differ sound end. absurd (true≢false (sym end)) }

-- ## The lock

abbrev locks : List Path
locks = lock_place ∷ []

module _ (o : Outside) (paths : List Path) where
  took : (made : Bool) (w : World) (es : List Event) → HasLocked (Ok made) w es → EndsAt o paths true w es
  took true w es h = lock_moves o paths (MakeParents lock_place ∷ Create lock_place ∷ Settle locks ∷ []) true w es (refl, (refl, (tt, tt))) h.0
  took false w es h = lock_moves o paths (MakeParents lock_place ∷ Create lock_place ∷ []) true w es (refl, (refl, tt)) h.0

  untaken : (x : Failed) (w : World) (es : List Event) → HasLocked (Err x) w es → EndsAt o paths false w es
  untaken x w es h = lock_moves o paths (MakeParents lock_place ∷ Create lock_place ∷ Settle locks ∷ []) false w es (refl, (refl, (tt, tt))) h

  released : (u : Unit {0}) (w : World) (es : List Event) → HasReleased (Ok u) w es → EndsAt o paths true w es
  released u w es h = lock_moves o paths (Remove lock_place ∷ Settle locks ∷ []) true w es (refl, (tt, tt)) h.calls

  unreleased : (x : Failed) (w : World) (es : List Event) → HasReleased (Err x) w es → EndsAt o paths false w es
  unreleased x w es h = lock_moves o paths (Remove lock_place ∷ Settle locks ∷ []) false w es (refl, (tt, tt)) h.calls

took_keeps : (made : Bool) (w : World) (es : List Event) → HasLocked (Ok made) w es → AllKeepTo locks locks es
took_keeps true w es h = carried_keep locks locks (MakeParents lock_place ∷ Create lock_place ∷ Settle locks ∷ []) true es (inl refl, (inl refl, (tt, tt))) h.0
took_keeps false w es h = carried_keep locks locks (MakeParents lock_place ∷ Create lock_place ∷ []) true es (inl refl, (inl refl, tt)) h.0

pub unlocking_is_safe : UnlockingIsSafe
unlocking_is_safe act (Ok u) w log follows h =
    kept_so (outside act) w log [] true (lock_moves (outside act) [] (Remove lock_place ∷ Settle locks ∷ []) true w log (refl, (tt, tt)) h.calls) follows
unlocking_is_safe act (Err unlock.Device) w log follows h =
    kept_so (outside act) w log [] false (lock_moves (outside act) [] (Remove lock_place ∷ Settle locks ∷ []) false w log (refl, (tt, tt)) h.calls) follows
unlocking_is_safe act (Err unlock.Output) w log follows h =
    kept_so (outside act) w log [] true (lock_moves (outside act) [] (Remove lock_place ∷ Settle locks ∷ []) true w log (refl, (tt, tt)) h.calls) follows
unlocking_is_safe act (Err unlock.OutOfMemory) w log follows h =
    kept_so (outside act) w log [] true (subst (λ l. EndsAt (outside act) [] true w l) (sym h.calls) (Resting, Done Resting w, λ e. refl)) follows

-- ## Turns

pub each_in : (P : Path → Type 0) (ps : List Path) (p : Path) → Each P ps → IsIn ps p → P p
each_in P [] p h i = absurd i
each_in P (q ∷ ps) p h (inl e) = subst P (sym e) h.0
each_in P (q ∷ ps) p h (inr i) = each_in P ps p h.1 i

module _ (act : Act) (paths : List Path) (texts : Each (λ p. is_path_text p ≡ true) paths) where
  abbrev Ends : Bool → World → List Event → Type 0
  Ends ok w es = EndsAt (outside act) paths ok w es

  -- a turn, whatever it answered
  turn_runs : (p : Path) (r : Result Bool StoreFault) (w : World) (es : List Event) → IsIn paths p → NoneOwned w → Follows act w es → IsTurn w p r es
      → (stage : Stage) × ForgetsAll (outside act) paths Resting w es stage × LeavesAt r stage
  turn_runs p r w es i free follows turn =
      forgetting_runs (outside act) turn.store paths p r w es i (each_in (λ q. is_path_text q ≡ true) paths p texts i) turn.is_store free follows turn.did

  turns_run : (w : World) (done : List Path) (es : List Event) → ((p : Path) → IsIn done p → IsIn paths p) → NoneOwned w → Follows act w es → HaveTurned w done es → Ends true w es
  turns_run w done es sub free follows (Looked _ h) = (Resting, looks_rest (outside act) paths false w es h, λ e. refl)
  turns_run w all log sub free follows (Turned done _ p es fs _ k turned turn all_is log_is) =
      let both : Follows act w (es ++ fs) = subst (Follows act w) log_is follows in
      let before : (q : Path) → IsIn done q → IsIn paths q = λ q i. sub q (subst (λ l. IsIn l q) (sym all_is) (in_left done (p ∷ []) q i)) in
      let first = turns_run w done es before free (follows_first act es fs w both) turned in
      let t = turn_runs p (Ok k) (run w es) fs (sub p (subst (λ l. IsIn l p) (sym all_is) (in_right done (p ∷ []) p (inl refl))))
      (none_owned_after (own_places paths) locks w es (turned_keep paths w done es before turned) free) (follows_rest act es fs w both) turn in
      subst (Ends true w) (sym log_is) (ends_then (outside act) paths true w es fs first (t.0, t.1, λ e. t.2))

  last_runs : (later : List Path) (r : Result (Unit {0}) ForgetFault) (w : World) (es : List Event) → ((p : Path) → IsIn later p → IsIn paths p) → NoneOwned w → Follows act w es → EndsSo later r w es → Ends (not (is_device r)) w es
  last_runs later (Ok u) w es sub free follows h = subst (Ends true w) (sym h.1) (Resting, Done Resting w, λ e. refl)
  last_runs later (Err Locked) w es sub free follows h = absurd h
  last_runs later (Err (StampSeen q)) w es sub free follows (p, rest, is, turn) =
      let t = turn_runs p (Err (store.StampSeen q)) w es (sub p (subst (λ l. IsIn l p) (sym is) (inl refl))) free follows turn in
      (t.0, t.1, λ e. t.2)
  last_runs later (Err Device) w es sub free follows (inl look) = (Resting, looks_rest (outside act) paths true w es look, λ e. refl)
  last_runs later (Err Device) w es sub free follows (inr (p, rest, is, turn)) =
      let t = turn_runs p (Err store.Device) w es (sub p (subst (λ l. IsIn l p) (sym is) (inl refl))) free follows turn in
      (t.0, t.1, λ e. absurd (true≢false (sym e)))
  last_runs later (Err Output) w es sub free follows h = subst (Ends true w) (sym h) (Resting, Done Resting w, λ e. refl)
  last_runs later (Err OutOfMemory) w es sub free follows look = (Resting, looks_rest (outside act) paths false w es look, λ e. refl)

  gone_runs : (r : Result (Unit {0}) ForgetFault) (w : World) (log : List Event) → NoneOwned w → Follows act w log → HasGone paths r w log → Ends (not (is_device r)) w log
  gone_runs r w log free follows g =
      let both : Follows act w (g.turns ++ g.last) = subst (Follows act w) g.events follows in
      let front = in_front paths g.done g.later g.split in
      subst (Ends (not (is_device r)) w) (sym g.events)
      (ends_then (outside act) paths (not (is_device r)) w g.turns g.last (turns_run w g.done g.turns front free (follows_first act g.turns g.last w both) g.turned)
      (last_runs g.later r (run w g.turns) g.last (λ p i. subst (λ l. IsIn l p) (sym g.split) (in_right g.done g.later p i))
      (none_owned_after (own_places paths) locks w g.turns (turned_keep paths w g.done g.turns front g.turned) free) (follows_rest act g.turns g.last w both) g.ends))

  quiet_of : (r : Result (Unit {0}) ForgetFault) → is_device r ≡ false → not (is_device r) ≡ true
  quiet_of r h = ap not h

  ended_runs : (r : Result (Unit {0}) ForgetFault) (w : World) (log : List Event) → NoneOwned w → Follows act w log → HasEnded paths r w log → Ends (not (is_device r)) w log
  ended_runs r w log free follows (Broken _ _ _ gone is) = gone_runs r w log free follows gone
  ended_runs r w log free follows (Closed _ _ es fs _ gone is release log_is) =
      let both : Follows act w (es ++ fs) = subst (Follows act w) log_is follows in
      subst (Ends (not (is_device r)) w) (sym log_is)
      (subst (λ b. Ends b w (es ++ fs)) (sym (quiet_of r is))
      (ends_then (outside act) paths true w es fs (subst (λ b. Ends b w es) (quiet_of r is) (gone_runs r w es free (follows_first act es fs w both) gone)) (released (outside act) paths tt (run w es) fs release)))
  ended_runs _ w log free follows (Unclosed r x _ es fs _ gone is release log_is) =
      let both : Follows act w (es ++ fs) = subst (Follows act w) log_is follows in
      subst (Ends false w) (sym log_is)
      (ends_then (outside act) paths false w es fs (subst (λ b. Ends b w es) (quiet_of r is) (gone_runs r w es free (follows_first act es fs w both) gone)) (unreleased (outside act) paths x (run w es) fs release))

  pub cleaned_runs : (nolock : Bool) (r : Result (Unit {0}) ForgetFault) (w : World) (log : List Event) → NoneOwned w → Follows act w log → HasCleaned paths nolock r w log → Ends (not (is_device r)) w log
  cleaned_runs nolock r w log free follows (Unheeded _ _ _ gone) = gone_runs r w log free follows gone
  cleaned_runs nolock _ w _ free follows (Unmade _) = (Resting, Done Resting w, λ e. refl)
  cleaned_runs nolock _ w log free follows (Untaken x _ _ taken) = untaken (outside act) paths x w log taken.calls
  cleaned_runs nolock _ w log free follows (Stood _ _ taken) = took (outside act) paths false w log taken.calls
  cleaned_runs nolock r w log free follows (Taken _ _ es fs _ taken ended log_is) =
      let both : Follows act w (es ++ fs) = subst (Follows act w) log_is follows in
      subst (Ends (not (is_device r)) w) (sym log_is)
      (ends_then (outside act) paths (not (is_device r)) w es fs (took (outside act) paths true w es taken.calls)
      (ended_runs r (run w es) fs (none_owned_after locks locks w es (took_keeps true w es taken.calls) free) (follows_rest act es fs w both) ended))

pub cleaning_is_safe : CleaningIsSafe
cleaning_is_safe act paths nolock answer w log texts free follows cleaned =
    kept_so (outside act) w log paths (not (is_device answer)) (cleaned_runs act paths texts nolock answer w log free follows cleaned) follows
