-- What `--cleanup-metadata` leaves.
use Rattle.std.proofs.Common.{◌≡◌, inl, inr, Bool, true, false, ◌&&◌, ◌||◌, not, List, [], ◌∷◌, ◌++◌, refl, sym, ap, subst, ◌∙◌, append-nil, None, Result, Ok, Err, true≢false}
use Rattle.std.specs.Prelude.{if◌then◌else◌, is_some}
use Rattle.std.proofs.lemmas.Bool.{or_parts}
use Rattle.std.proofs.Math.Bool.{and-false}
use Rattle.smk_base.specs.Place.{lock_place, record_place, mark_place, note_place}
use Rattle.smk_base.proofs.Apart.{IsApart, record-lock, mark-lock, note-lock}
use Rattle.smk_base.proofs.Places.{place_itself}
use Rattle.smk_base.proofs.Under.{or_first, or_second}
use Rattle.smk_world.specs.declared.event.Event.{Event}
use Rattle.smk_world.specs.Devices.{AreLooks}
use Rattle.smk_world.specs.Runs.{Follows}
use Rattle.smk_world.specs.Trees.{Path, Act, among, is_path_text}
use Rattle.smk_world.specs.World.{World, run, reading, is_within}
use Rattle.smk_world.proofs.Devices.{looks_nodes}
use Rattle.smk_world.proofs.Runs.{run_append}
use Rattle.smk_record.specs.Reading.{record_in}
use Rattle.smk_store.specs.declared.fault.StoreFault.{StoreFault}
use Rattle.smk_store.specs.declared.store.Kept.TheVariants.{Absent}
use Rattle.smk_store.specs.Images.{is_known, kept_by, stands}
use Rattle.smk_keep_lock.specs.Changing.{ChangesOnly, IsSame}
use Rattle.smk_keep_lock.proofs.Staying.{AllKeepTo, changes_only, stays_itself, stays_then}
use Rattle.smk_keep_forget.specs.declared.fault.ForgetFault.{ForgetFault}
use Rattle.smk_keep_forget.specs.declared.fault.ForgetFault.TheVariants.{Locked, StampSeen, Device, Output, OutOfMemory}
use Rattle.smk_keep_forget.specs.Answers.{is_device}
use Rattle.smk_keep_forget.specs.Cleaning.{Unheeded, Unmade, Untaken, Stood, Taken}
use Rattle.smk_keep_forget.specs.Seen.{seen}
use Rattle.smk_keep_forget.specs.Steps.{HasEnded, Broken, Closed, Unclosed}
use Rattle.smk_keep_forget.specs.Turns.{IsTurn, HaveTurned, Looked, Turned, EndsSo, HasGone}
use Rattle.smk_keep_forget.proofs.Forgetting.{own_of, follows_rest}
use Rattle.smk_keep_forget.proofs.Going.{follows_first, known_now}
use Rattle.smk_laws_keys.specs.Keys.{own_places, AreForgotten, CleaningLeavesLittle}
use Rattle.smk_laws_keys.proofs.Kept.{forgotten_keep, gone_keep}

-- ## Changes, one after another

only_then : (places below : List Path) (w v u : World) → ChangesOnly places below w v → ChangesOnly places below v u → ChangesOnly places below w u
only_then places below w v u h k q out off = stays_then (w.nodes q) (v.nodes q) (u.nodes q) (h q out off) (k q out off)

-- changes of the lock are among those of all places
of_lock : (paths : List Path) (w v : World) → ChangesOnly (lock_place ∷ []) (lock_place ∷ []) w v → ChangesOnly (own_places paths) (lock_place ∷ []) w v
of_lock paths w v h q out off = h q (ap (λ b. b || false) (or_parts _ _ out).0) off

pub of_release : (w v : World) → ChangesOnly (lock_place ∷ []) [] w v → ChangesOnly (lock_place ∷ []) (lock_place ∷ []) w v
of_release w v h q out off = h q out refl

-- ## The lock stays in turns

abbrev LockStays : World → World → Type 0
LockStays w v = reading (v.nodes lock_place) ≡ reading (w.nodes lock_place)

lock_apart : (p : Path) → is_within lock_place (own_of p) ≡ false
lock_apart p =
    ap (λ b. b || (is_within lock_place (note_place p ∷ mark_place p ∷ []))) (record-lock p).at_or_over
    ∙ ap (λ b. b || (is_within lock_place (mark_place p ∷ []))) (note-lock p).at_or_over
    ∙ ap (λ b. b || false) (mark-lock p).at_or_over

lock_kept : (p : Path) (w : World) (es : List Event) → AllKeepTo (own_of p) [] es → LockStays w (run w es)
lock_kept p w es h = sym (changes_only (own_of p) [] w es h lock_place (lock_apart p) refl).0

looks_lock : (f : Bool) (w : World) (es : List Event) → AreLooks f es → LockStays w (run w es)
looks_lock f w es h = ap (λ ns. reading (ns lock_place)) (looks_nodes f w es h)

lock_turn : (p : Path) (r : Result Bool StoreFault) (w : World) (es : List Event) → IsTurn w p r es → LockStays w (run w es)
lock_turn p r w es turn = lock_kept p w es (forgotten_keep turn.store p r w es turn.did)

lock_turns : (w : World) (done : List Path) (es : List Event) → HaveTurned w done es → LockStays w (run w es)
lock_turns w done es (Looked _ h) = looks_lock false w es h
lock_turns w all log (Turned done _ p es fs _ k turned turn all_is log_is) =
    subst (λ l. LockStays w (run w l)) (sym log_is) (subst (LockStays w) (sym (run_append w es fs)) (lock_turn p (Ok k) (run w es) fs turn ∙ lock_turns w done es turned))

lock_last : (later : List Path) (r : Result (Unit {0}) ForgetFault) (w : World) (es : List Event) → EndsSo later r w es → LockStays w (run w es)
lock_last later (Ok u) w es h = subst (λ l. LockStays w (run w l)) (sym h.1) refl
lock_last later (Err Locked) w es h = absurd h
lock_last later (Err (StampSeen q)) w es (p, rest, is, turn) = lock_turn p _ w es turn
lock_last later (Err Device) w es (inl look) = looks_lock true w es look
lock_last later (Err Device) w es (inr (p, rest, is, turn)) = lock_turn p _ w es turn
lock_last later (Err Output) w es h = subst (λ l. LockStays w (run w l)) (sym h) refl
lock_last later (Err OutOfMemory) w es look = looks_lock false w es look

lock_gone : (paths : List Path) (r : Result (Unit {0}) ForgetFault) (w : World) (log : List Event) → HasGone paths r w log → LockStays w (run w log)
lock_gone paths r w log g =
    subst (λ l. LockStays w (run w l)) (sym g.events)
    (subst (LockStays w) (sym (run_append w g.turns g.last)) (lock_last g.later r (run w g.turns) g.last g.ends ∙ lock_turns w g.done g.turns g.turned))

-- ## All is forgotten

pub each_known : (w v : World) (all ps : List Path) → ((p : Path) → among ps p ≡ true → among all p ≡ true) → ((q : Path) → is_known (seen v) q ≡ (is_known (seen w) q && not (among all q))) → AreForgotten ps v
each_known w v all [] sub h = tt
each_known w v all (p ∷ ps) sub h = (
  h p ∙ ap (λ b. is_known (seen w) p && not b) (sub p (or_first _ (among ps p) (place_itself p))) ∙ and-false (is_known (seen w) p),
  each_known w v all ps (λ q i. sub q (or_second _ (among ps q) i)) h,
)

module _ (act : Act) (paths : List Path) where
  forgotten_all : (w : World) (log : List Event) → Follows act w log → HasGone paths (Ok tt) w log → AreForgotten paths (run w log)
  forgotten_all w log follows g =
      let log_is : log ≡ g.turns = g.events ∙ ap (λ l. g.turns ++ l) g.ends.1 ∙ append-nil g.turns in
      let paths_are : paths ≡ g.done = g.split ∙ ap (λ l. g.done ++ l) g.ends.0 ∙ append-nil g.done in
      each_known w (run w log) paths paths (λ p i. i)
      (λ q. ap (λ l. is_known (seen (run w l)) q) log_is ∙ known_now act w g.done g.turns (subst (Follows act w) log_is follows) g.turned q
      ∙ sym (ap (λ l. is_known (seen w) q && not (among l q)) paths_are))

  known_at : (w v : World) (q : Path) → ChangesOnly (lock_place ∷ []) (lock_place ∷ []) w v → is_known (seen v) q ≡ is_known (seen w) q
  known_at w v q only = λ i.
      stands (if is_path_text q then kept_by record_in q (same (record_place q) (record-lock q) i) else Absent)
      || ((is_path_text q && is_some (same (mark_place q) (mark-lock q) i)) || (is_path_text q && is_some (same (note_place q) (note-lock q) i)))
    where
      same : (x : Path) → IsApart x lock_place → reading (v.nodes x) ≡ reading (w.nodes x)
      same x apart = sym (only x (ap (λ b. b || false) apart.at_or_under) (ap (λ b. b || false) apart.over)).0

  pub still_forgotten : (ps : List Path) (w v : World) → ChangesOnly (lock_place ∷ []) (lock_place ∷ []) w v → AreForgotten ps w → AreForgotten ps v
  still_forgotten [] w v only h = tt
  still_forgotten (p ∷ ps) w v only h = (known_at w v p only ∙ h.0, still_forgotten ps w v only h.1)

  -- ## Under the lock

  record UnderLock (r : Result (Unit {0}) ForgetFault) (w v : World) : Type 0 where
    only : ChangesOnly (own_places paths) (lock_place ∷ []) w v
    lock : is_device r ≡ false → reading (v.nodes lock_place) ≡ None
    all : r ≡ Ok tt → AreForgotten paths v
    unlocked : r ≡ Err Locked → ⊥

  gone_only : (r : Result (Unit {0}) ForgetFault) (w : World) (log : List Event) → HasGone paths r w log → ChangesOnly (own_places paths) (lock_place ∷ []) w (run w log)
  gone_only r w log g = changes_only (own_places paths) (lock_place ∷ []) w log (gone_keep paths r w log g)

  never_locked : (r : Result (Unit {0}) ForgetFault) (w : World) (log : List Event) → HasGone paths r w log → r ≡ Err Locked → ⊥
  never_locked r w log g e = let h : EndsSo g.later (Err Locked) (run w g.turns) g.last = subst (λ x. EndsSo g.later x (run w g.turns) g.last) e g.ends in h

  under_lock : (r : Result (Unit {0}) ForgetFault) (w : World) (log : List Event) → Follows act w log → HasEnded paths r w log → UnderLock r w (run w log)
  under_lock r w log follows (Broken _ _ _ gone is) =
      record {
        only = gone_only r w log gone;
        lock = λ quiet. absurd (true≢false (sym is ∙ quiet));
        all = λ e. absurd (true≢false (sym is ∙ ap is_device e));
        unlocked = never_locked r w log gone;
      }
  under_lock r w log follows (Closed _ _ es fs _ gone is release log_is) =
      let both : Follows act w (es ++ fs) = subst (Follows act w) log_is follows in
      let v = run w es in
      let at : run w log ≡ run v fs = ap (run w) log_is ∙ run_append w es fs in
      let at_lock = of_release v (run v fs) release.only in
      record {
        only = subst (ChangesOnly (own_places paths) (lock_place ∷ []) w) (sym at)
            (only_then (own_places paths) (lock_place ∷ []) w v (run v fs) (gone_only r w es gone) (of_lock paths v (run v fs) at_lock));
        lock = λ quiet. ap (λ (u : World). reading (u.nodes lock_place)) at ∙ release.gone refl;
        all = λ e. subst (AreForgotten paths) (sym at) (still_forgotten paths v (run v fs) at_lock (forgotten_all w es (follows_first act es fs w both) (subst (λ x. HasGone paths x w es) e gone)));
        unlocked = never_locked r w es gone;
      }
  under_lock _ w log follows (Unclosed r x _ es fs _ gone is release log_is) =
      let v = run w es in
      let at : run w log ≡ run v fs = ap (run w) log_is ∙ run_append w es fs in
      record {
        only = subst (ChangesOnly (own_places paths) (lock_place ∷ []) w) (sym at)
            (only_then (own_places paths) (lock_place ∷ []) w v (run v fs) (gone_only r w es gone) (of_lock paths v (run v fs) (of_release v (run v fs) release.only)));
        lock = λ quiet. absurd (true≢false quiet);
        all = λ e. absurd cc;
        unlocked = λ e. absurd cc;
      }

pub leaves_little : CleaningLeavesLittle
leaves_little act paths nolock r w log follows (Unheeded _ _ _ gone) =
    record {
      only = gone_only act paths r w log gone;
      lock = λ quiet. lock_gone paths r w log gone;
      all = λ e. forgotten_all act paths w log follows (subst (λ x. HasGone paths x w log) e gone);
      same = λ e. absurd (never_locked act paths r w log gone e);
    }
leaves_little act paths nolock _ w _ follows (Unmade _) =
    record { only = λ q out off. stays_itself (w.nodes q); lock = λ quiet. refl; all = λ e. absurd cc; same = λ e. absurd cc }
leaves_little act paths nolock _ w log follows (Untaken x _ _ taken) =
    record { only = of_lock paths w (run w log) taken.only; lock = λ quiet. absurd (true≢false quiet); all = λ e. absurd cc; same = λ e. absurd cc }
leaves_little act paths nolock _ w log follows (Stood _ _ taken) =
    let same : IsSame w (run w log) = (taken.stood refl).1 in
    record { only = of_lock paths w (run w log) taken.only; lock = λ quiet. ap reading (sym (same.0 lock_place)); all = λ e. absurd cc; same = λ e. same }
leaves_little act paths nolock r w log follows (Taken _ _ es fs _ taken ended log_is) =
    let both : Follows act w (es ++ fs) = subst (Follows act w) log_is follows in
    let v = run w es in
    let at : run w log ≡ run v fs = ap (run w) log_is ∙ run_append w es fs in
    let u = under_lock act paths r v fs (follows_rest act es fs w both) ended in
    record {
      only = subst (ChangesOnly (own_places paths) (lock_place ∷ []) w) (sym at) (only_then (own_places paths) (lock_place ∷ []) w v (run v fs) (of_lock paths w v taken.only) u.only);
      lock = λ quiet. ap (λ (x : World). reading (x.nodes lock_place)) at ∙ u.lock quiet ∙ sym (taken.taken refl).0;
      all = λ e. subst (AreForgotten paths) (sym at) (u.all e);
      same = λ e. absurd (u.unlocked e);
    }
