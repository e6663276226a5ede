-- What a run came to under the lock.
use Rattle.std.proofs.Common.{◌≡◌, ◌⊎◌, inl, inr, ℕ, Bool, true, false, List, [], ◌∷◌, ◌++◌, refl, ap, sym, subst, ◌∙◌, Option, Some, Result, Ok, Err}
use Rattle.std.proofs.lemmas.Option.{same_Some}
use Rattle.smk_base.specs.Place.{lock_place}
use Rattle.smk_world.specs.declared.event.Event.{Event}
use Rattle.smk_world.specs.declared.event.Failed.{Failed}
use Rattle.smk_world.specs.World.{World, IsFormed, run}
use Rattle.smk_world.specs.Devices.{Device, Sunk, HasActed, HasLooked, AreLooks as OnlyLooks}
use Rattle.smk_world.specs.Requests.{Request, Carries}
use Rattle.smk_world.specs.Requests.Request.{Create, MakeParents, Remove, Settle}
use Rattle.smk_world.specs.Runs.{Follows}
use Rattle.smk_world.specs.Trees.{Act, Each}
use Rattle.smk_world.proofs.Names.{formed_run}
use Rattle.smk_world.proofs.Runs.{follows_append, run_append}
use Rattle.smk_record.specs.declared.record.Record.{Record}
use Rattle.smk_store.specs.Images.{seen}
use Rattle.smk_store.specs.Soundness.{Outside, SoundWorld}
use Rattle.smk_store.specs.Steps.{HasLocked}
use Rattle.smk_store.specs.Trust.{Versions, SumsDiffer}
use Rattle.smk_keep_lock.specs.Changing.{ChangesOnly}
use Rattle.smk_keep_lock.specs.Locking.{HasTaken, HasReleased}
use Rattle.smk_keep_lock.proofs.Staying.{stays_itself}
use Rattle.smk_laws_protocol.specs.Midway.{at_entry}
use Rattle.smk_plan_preview.proofs.LookedAt.{looks_leave, seen_moved}
use Rattle.smk_words_reading.specs.declared.asked.RunWords.{RunWords}
use Rattle.smk_report.specs.declared.fault.Fault.{Fault}
use Rattle.smk_report.specs.declared.fault.Fault.TheVariants as fault
use Rattle.smk_plan.specs.States.{nothing_done}
use Rattle.smk_plan_preview.specs.declared.previewing.Previewed.{Previewed}
use Rattle.smk_plan_preview.specs.Previewing.{rules_for}
use Rattle.smk_cli_entry.specs.declared.asking.Asked.{Asked}
use Rattle.smk_cli_calls.specs.Serving.{Went, settings_of}
use Rattle.smk_cli_calls.specs.Locking.{HasRunLocked, IsAfterLooks, IsClosed, IsOnceLocked, LockGoes, LockStays, with_release}
use Rattle.smk_cli_calls.specs.Whole.{AsksFor, IsRefusal, IsToServe, OfPlan, OfWorkflow}
use Rattle.smk_safe.proofs.Joining.{AreLooks, look_all}
use Rattle.smk_laws_refusing.specs.Heeding.{IsSameButLock}
use Rattle.smk_laws_refusing.specs.Parts.{IsRun, OnLock, One}
use Rattle.smk_laws_refusing.proofs.Heeding.{lock_changes_itself_alone, previews_heed_no_lock, refusals_heed_no_lock, same_back}
use Rattle.smk_laws_refusing.proofs.Moves.{lock_calls_are_runs}
use Rattle.smk_laws_refusing.proofs.Parts.{parts_are_safe}
use Rattle.smk_clean.proofs.Safe.{Answer, bounded, looks_are, ok_err}

-- ## Calls on the lock

-- the calls by which it is taken, as far as they came
pub record AreCalls (es : List Event) : Type 0 where
  pub requests : List Request
  pub ok : Bool
  pub on_lock : Each OnLock requests
  pub carried : Carries requests ok es

pub taking_calls : (r : Result Bool Failed) (w : World) (es : List Event) → HasLocked r w es → AreCalls es
taking_calls (Ok true) w es h = record {
  requests = MakeParents lock_place ∷ Create lock_place ∷ Settle (lock_place ∷ []) ∷ [];
  ok = true;
  on_lock = (refl, (refl, (tt, tt)));
  carried = h.0;
}
taking_calls (Ok false) w es h = record { requests = MakeParents lock_place ∷ Create lock_place ∷ []; ok = true; on_lock = (refl, (refl, tt)); carried = h.0 }
taking_calls (Err x) w es h = record {
  requests = MakeParents lock_place ∷ Create lock_place ∷ Settle (lock_place ∷ []) ∷ [];
  ok = false;
  on_lock = (refl, (refl, (tt, tt)));
  carried = h;
}

pub releasing_calls : (r : Result (Unit {0}) Failed) (w : World) (es : List Event) → HasReleased r w es → AreCalls es
releasing_calls (Ok u) w es h = record {
  requests = Remove lock_place ∷ Settle (lock_place ∷ []) ∷ [];
  ok = true;
  on_lock = (refl, (tt, tt));
  carried = h.calls;
}
releasing_calls (Err x) w es h = record {
  requests = Remove lock_place ∷ Settle (lock_place ∷ []) ∷ [];
  ok = false;
  on_lock = (refl, (tt, tt));
  carried = h.calls;
}

module _ (o : Outside) where
  -- looks, and then calls on the lock, are a run of the protocol
  pub lock_run : (w : World) (looks es : List Event) → IsFormed w → AreLooks o looks → AreCalls es → IsRun o w (looks ++ es)
  lock_run w looks es formed only calls =
      let bound = bounded o w formed in
      let r = lock_calls_are_runs o calls.requests calls.ok (at_entry o bound.0) (run w looks) es refl calls.on_lock calls.carried in
      (bound.0, bound.1, (r.0, look_all o (at_entry o bound.0) r.0 es refl w looks only r.1))

  pub taking_run : (r : Result Bool Failed) (w : World) (looks es : List Event) → IsFormed w → OnlyLooks false looks → HasTaken r (run w looks) es →
      IsRun o w (looks ++ es)
  taking_run r w looks es formed only h = lock_run w looks es formed (looks_are o false looks only) (taking_calls r (run w looks) es h.calls)

  pub releasing_run : (r : Result (Unit {0}) Failed) (w : World) (es : List Event) → IsFormed w → HasReleased r w es → IsRun o w es
  releasing_run r w es formed h = lock_run w [] es formed tt (releasing_calls r w es h)

-- ## The folder under the lock

-- what is changed at the lock alone is changed at it and above it
pub only_wider : (w v : World) → ChangesOnly (lock_place ∷ []) [] w v → ChangesOnly (lock_place ∷ []) (lock_place ∷ []) w v
only_wider w v only = λ q out off. only q out refl

-- once looks were made and the lock was taken the folder is the same but for the lock
pub locked_same : (act : Act) (read : List ℕ → Option Record) (w v u : World) → IsFormed w → IsAfterLooks act w v → IsOnceLocked act v u →
    IsSameButLock (seen read w) (seen read u)
locked_same act read w v u formed after once =
    let looked = looks_leave act false w after.looks after.follows after.only_looks in
    let formed_v : IsFormed v = subst IsFormed (sym after.is) (formed_run w after.looks formed) in
    let formed_u : IsFormed u = subst IsFormed (sym once.is) (formed_run v once.taking formed_v) in
    let only : ChangesOnly (lock_place ∷ []) (lock_place ∷ []) v u = subst (ChangesOnly (lock_place ∷ []) (lock_place ∷ []) v) (sym once.is) once.took.only in
    subst (λ i. IsSameButLock i (seen read u)) (ap (seen read) after.is ∙ seen_moved read w (run w after.looks) looked)
    (lock_changes_itself_alone read v u formed_v formed_u only)

-- so what is planned under the lock is planned for the folder before, and what is refused is refused of it
pub served_before : (read : List ℕ → Option Record) (words : RunWords) (w u : World) (asked : Asked) (told : Previewed) →
    IsSameButLock (seen read w) (seen read u) → IsToServe read words w u asked told
    → IsToServe read words w w asked told
served_before read words w u asked told same h = record {
  is_asked = h.is_asked;
  plan = previews_heed_no_lock read asked.flow (settings_of asked words) told (seen read u) (seen read w) (same_back (seen read w) (seen read u) same) h.plan;
}

pub refused_before : (read : List ℕ → Option Record) (words : RunWords) (w u : World) (f : Fault) → IsSameButLock (seen read w) (seen read u) →
    IsRefusal read words w u f → IsRefusal read words w w f
refused_before read words w u f same (OfWorkflow fails) = OfWorkflow fails
refused_before read words w u f same (OfPlan asked is refuses) =
    OfPlan asked is (refusals_heed_no_lock (rules_for read asked.flow (settings_of asked words)) nothing_done [] f (seen read u) (seen read w)
    (same_back (seen read w) (seen read u) same) refuses)

module _ (o : Outside) (H : Versions) (w : World) (differ : SumsDiffer H) (sound : SoundWorld o w H) (words : RunWords) (answer : Answer) where
  -- Under the lock a run went, from a sound folder that is the one of the entry but for the lock. Then, where no child was left, the lock's release came, or
  -- nothing.
  pub record IsUnderLock (new : Device) (p q : Sunk) (end : World) : Type 0 where
    pub start : World
    pub front : List Event
    pub follows : Follows o.act w front
    pub is : start ≡ run w front
    pub first : IsRun o w front
    pub sound_then : SoundWorld o start H
    pub same_start : IsSameButLock (seen o.read w) (seen o.read start)
    pub locked : Device
    pub at_start : locked.world ≡ Some start
    pub ran : Answer
    pub left : Device
    pub went : Went o.act words ran (IsRefusal o.read words w start) (AsksFor words w) (IsToServe o.read words w start) locked left p q
    pub last : World
    pub at_last : left.world ≡ Some last
    pub release : List Event
    pub follows_release : Follows o.act last release
    pub end_is : end ≡ run last release
    pub released : (release ≡ []) ⊎ ((last.children ≡ []) × (end.children ≡ []) × (IsFormed last → IsRun o last release))
    pub only : ChangesOnly (lock_place ∷ []) (lock_place ∷ []) last end
    pub well : (u : Unit {0}) → answer ≡ Ok u → ran ≡ Ok tt

  ok_of : (r : Result (Unit {0}) Failed) (x : Answer) (u : Unit {0}) → with_release r x ≡ Ok u → x ≡ Ok tt
  ok_of (Ok t) x u h = h
  ok_of (Err e) (Ok t) u h = absurd (ok_err u fault.Device (sym h))
  ok_of (Err e) (Err f) u h = absurd (ok_err u f (sym h))

  module _ (old looked locked new : Device) (p q : Sunk) (v start end : World) (at : old.world ≡ Some w) (at_end : new.world ≡ Some end)
      (after : IsAfterLooks o.act w v) (looking : HasLooked o.act old looked false)
      (at_v : looked.world ≡ Some v) (once : IsOnceLocked o.act v start) (at_start : locked.world ≡ Some start)
      (taken : HasActed o.act (HasTaken (Ok true)) looked locked false) where
    abbrev front : List Event
    front = after.looks ++ once.taking

    start_is : start ≡ run w front
    start_is = once.is ∙ ap (λ x. run x once.taking) after.is ∙ sym (run_append w after.looks once.taking)

    follows_front : Follows o.act w front
    follows_front = follows_append o.act w after.looks once.taking after.follows (subst (λ x. Follows o.act x once.taking) after.is once.follows)

    front_run : IsRun o w front
    front_run = taking_run o (Ok true) w after.looks once.taking sound.formed after.only_looks
        (subst (λ x. HasTaken (Ok true) x once.taking) after.is once.took)

    alone : start.children ≡ []
    alone =
        let a = taken.children start at_start in
        let b = looking.acted.children v at_v in
        a.2 ∙ ap (λ (x : World). x.children) (same_Some a.0 v (sym a.1 ∙ at_v)) ∙ b.2 ∙ ap (λ (x : World). x.children) (same_Some b.0 w (sym b.1 ∙ at))
        ∙ sound.no_child

    pub start_sound : SoundWorld o start H
    start_sound =
        subst (λ x. SoundWorld o x H) (sym start_is)
        ((parts_are_safe o w H front differ sound follows_front (One w front front_run)).at_end (subst (λ (x : World). x.children ≡ []) start_is alone))

    pub under_lock :
        (ran : HasRunLocked o.act words answer (IsRefusal o.read words w start) (AsksFor words w) (IsToServe o.read words w start) locked new p q) →
        IsUnderLock new p q end
    under_lock ran = go ran.closed
      where
        base :
            (last : World) → ran.left.world ≡ Some last → (release : List Event) → Follows o.act last release → end ≡ run last release →
            (release ≡ []) ⊎ ((last.children ≡ []) × (end.children ≡ []) × (IsFormed last → IsRun o last release)) → ChangesOnly (lock_place ∷ [])
            (lock_place ∷ []) last end →
            ((u : Unit {0}) → answer ≡ Ok u → ran.ran ≡ Ok tt) → IsUnderLock new p q end
        base last at_last release follows end_is released only well = record {
          start = start;
          front = front;
          follows = follows_front;
          is = start_is;
          first = front_run;
          sound_then = start_sound;
          same_start = locked_same o.act o.read w v start sound.formed after once;
          locked = locked;
          at_start = at_start;
          ran = ran.ran;
          left = ran.left;
          went = ran.went;
          last = last;
          at_last = at_last;
          release = release;
          follows_release = follows;
          end_is = end_is;
          released = released;
          only = only;
          well = well;
        }

        go : IsClosed o.act ran.ran answer locked ran.left new → IsUnderLock new p q end
        go (LockStays rose is same) =
            base end (sym (ap (λ (d : Device). d.world) same) ∙ at_end) [] tt refl (inl refl) (λ q out off. stays_itself (end.nodes q)) (λ u e. sym is ∙ e)
        go (LockGoes r never none goes is) =
            let d = goes.did end at_end in
            let c = goes.children end at_end in
            base d.0 d.1 d.2.0 d.2.1 d.2.3
            (inr (none d.0 d.1, c.2 ∙ none c.0 c.1, λ formed. releasing_run o r d.0 d.2.0 formed d.2.2))
            (subst (ChangesOnly (lock_place ∷ []) (lock_place ∷ []) d.0) (sym d.2.3) (only_wider d.0 (run d.0 d.2.0) d.2.2.only))
            (λ u e. ok_of r ran.ran u (sym is ∙ e))
