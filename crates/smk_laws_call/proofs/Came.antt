-- A folder that came by calls is one of a history; so the laws of the call hold of the next call, with no premise on the folder.
use Rattle.std.proofs.Common.{◌≡◌, ◌⊎◌, inl, true, List, [], refl, sym, subst, ◌∙◌, Option, Some, None, Bool, false, not, ◌∷◌, ap, Result, Ok, Err, true≢false, ℕ}
use Rattle.std.proofs.lemmas.Option.{same_Some}
use Rattle.smk_world.specs.declared.event.Event.{Event}
use Rattle.smk_world.specs.World.{World, run, is_within}
use Rattle.smk_world.specs.Trees.{Path, Act, Each, is_path_text}
use Rattle.smk_world.specs.Runs.{Follows}
use Rattle.smk_record.specs.Reading.{record_in}
use Rattle.smk_record.proofs.Exact.{reads_records}
use Rattle.smk_store.specs.Safety.{with_sources}
use Rattle.smk_store.specs.Soundness.{Outside, SoundWorld}
use Rattle.smk_store.specs.Trust.{Versions, SumsDiffer}
use Rattle.smk_laws_history.specs.Histories as histories
use Rattle.smk_laws_history.specs.Histories.{History, DifferInSums, IsCall, IsHeld}
use Rattle.smk_laws_history.proofs.HistoryLaw.{every_world_sound, fewer_differ, on_left, versions_differ}
use Rattle.smk_laws_refusing.proofs.Parts.{parts_are_call}
use Rattle.smk_report.specs.declared.fault.Fault.{Fault}
use Rattle.smk_words_reading.specs.declared.asked.Asked.{Asked as Request}
use Rattle.smk_words_reading.specs.declared.asked.Asked.TheVariants.{Run, Forget}
use Rattle.smk_world.specs.Calls.{Rose, owned_now}
use Rattle.smk_world.specs.Devices.{Device}
use Rattle.smk_world.specs.Requests.Request.{Remove as RemoveRequest, Settle}
use Rattle.smk_base.specs.Place.{lock_place}
use Rattle.smk_store.specs.Unowned.{NoneOwned}
use Rattle.smk_laws_protocol.specs.Forgetting.{Stage, Resting, ForgetsAll, Done, is_resting}
use Rattle.smk_laws_history.proofs.HistoryListedForgetting.{forgetting_is_call}
use Rattle.smk_keep_lock.specs.declared.fault.UnlockFault.{UnlockFault}
use Rattle.smk_keep_lock.specs.declared.fault.UnlockFault.TheVariants as unlock
use Rattle.smk_keep_lock.specs.Unlocking.{HasRemoved}
use Rattle.smk_keep_lock.specs.Unlocking as unlocking
use Rattle.smk_keep_forget.specs.Seen.{seen}
use Rattle.smk_keep_forget.specs.Answers as forgetting
use Rattle.smk_keep_forget.specs.Cleaning.{HasCleaned}
use Rattle.smk_laws_keys.specs.Keys.{outside}
use Rattle.smk_laws_keys.proofs.Moves.{EndsAt, lock_moves}
use Rattle.smk_laws_keys.proofs.Safe.{cleaned_runs}
use Rattle.smk_cli_calls.specs.Keys.{Keeps, NoMemory, Unlocks, Forgets}
use Rattle.smk_safe.proofs.CleanAtExit.{run_leaves_all_clean}
use Rattle.smk_clean.specs.Safe.{IsSafeCall}
use Rattle.smk_clean.proofs.Serving.{call_is_safe}
use Rattle.smk_clean.proofs.Ended.{drives_end}
use Rattle.smk_clean.proofs.Ending.{call_is_clean, call_leaves_none}
use Rattle.smk_clean.proofs.Again.{next_starts_nothing}
use Rattle.smk_laws_call.proofs.Calling.{call_is_complete}
use Rattle.smk_laws_call.proofs.Working.{same_events}
use Rattle.smk_laws_call.specs.Headline.{IsCalled, IsKeptCall, Came, Begin, Edit, Remove, Call, Keep, Crash, CrashKeeping, HasHeld, SumsDifferIn, CameIsHistory, CameIsSound, Headline}
use Rattle.smk_laws_call.specs.Started.{StartsOnFinished}
use Rattle.smk_laws_call.proofs.Started.{parts_start_on_finished}
use Rattle.smk_laws_call.proofs.Telling.{ran_tells}

module _ (act : Act) where
  abbrev o : Outside
  o = outside act

  -- the events of a call in a sound folder keep it safe
  safe :
      (w v : World) (H : Versions) (request : Request) (told : Option Fault) → SumsDiffer H → SoundWorld o w H → IsCalled o request told w v →
      (es : List Event) × Follows o.act w es × (v ≡ run w es) × IsSafeCall o w H es × (told ≡ None → SoundWorld o v H)
  safe w v H request told differ sound called =
      call_is_safe o H request told w v called.old called.new called.out_old called.out_new called.begins called.ends reads_records differ sound called.served

  -- so it is a call that may stand in a history
  is_call :
      (w v : World) (H : Versions) (request : Request) (told : Option Fault) → SumsDiffer H → SoundWorld o w H → IsCalled o request told w v →
      (es : List Event) × (v ≡ run w es) × IsCall o w es [] true
  is_call w v H request told differ sound called =
      let s = safe w v H request told differ sound called in (s.0, s.2, parts_are_call o w s.0 s.1 s.3.follows_protocol)

  -- ## The lock, and what is known of paths

  none_owned : (w : World) (H : Versions) → SoundWorld o w H → NoneOwned w
  none_owned w H sound q owned = absurd (nowhere (subst (λ cs. is_within q (owned_now cs) ≡ true) sound.no_child (sound.owners q owned)))
    where
      nowhere : is_within q [] ≡ true → ⊥
      nowhere h = true≢false (sym h)

  -- what such a call did is a log that forgets paths; whole, where no count rose
  record IsForgetting (w v : World) (quiet : Type 0) : Type 0 where
    paths : List Path
    log : List Event
    stage : Stage
    follows : Follows o.act w log
    is : v ≡ run w log
    forgets : ForgetsAll o paths Resting w log stage
    whole : quiet → stage ≡ Resting

  unlock_ends : (r : Result (Unit {0}) UnlockFault) (w : World) (es : List Event) → HasRemoved r w es → EndsAt o [] (not (unlocking.is_device r)) w es
  unlock_ends (Ok u) w es h = lock_moves o [] (RemoveRequest lock_place ∷ Settle (lock_place ∷ []) ∷ []) true w es (refl, (tt, tt)) h.calls
  unlock_ends (Err unlock.Device) w es h = lock_moves o [] (RemoveRequest lock_place ∷ Settle (lock_place ∷ []) ∷ []) false w es (refl, (tt, tt)) h.calls
  unlock_ends (Err unlock.Output) w es h = lock_moves o [] (RemoveRequest lock_place ∷ Settle (lock_place ∷ []) ∷ []) true w es (refl, (tt, tt)) h.calls
  unlock_ends (Err unlock.OutOfMemory) w es h = subst (λ l. EndsAt o [] true w l) (sym h.calls) (Resting, Done Resting w, λ e. refl)

  quiet_call : (rose : Type 0) (b : Bool) → (b ≡ true → rose) → (rose → ⊥) → not b ≡ true
  quiet_call rose true raises never = absurd (never (raises refl))
  quiet_call rose false raises never = refl

  forgetting_of : (w v : World) (H : Versions) (request : Request) (told : Option Fault) → SoundWorld o w H → (called : IsKeptCall act request told w v) → IsForgetting w v (Rose called.old.faults called.new.faults → ⊥)
  forgetting_of w v H request told sound called = go request (called.kept).keeps called.texts
    where
      from : (d : World) → called.old.world ≡ Some d → d ≡ w
      from d is = same_Some d w (sym is ∙ called.begins)

      go :
          (request : Request) → Keeps act (called.kept).answer called.old called.new called.out_old called.out_new w request →
          ((paths : List Path) (nolock : Bool) → request ≡ Forget paths nolock → Each (λ p. is_path_text p ≡ true) paths) →
          IsForgetting w v (Rose called.old.faults called.new.faults → ⊥)
      go request (NoMemory _ is same unput) texts =
          record {
            paths = [];
            log = [];
            stage = Resting;
            follows = tt;
            is = same_Some v w (sym called.ends ∙ ap (λ (d : Device). d.world) same ∙ called.begins);
            forgets = Done Resting w;
            whole = λ quiet. refl;
          }
      go _ (Unlocks did) texts =
          let d = did.acted.did v called.ends in
          let at = from d.0 d.1 in
          let es = d.2.0 in
          let ends = subst (λ x. EndsAt o [] (not (unlocking.is_device did.result)) x es) at (unlock_ends did.result d.0 es d.2.2) in
          record {
            paths = [];
            log = es;
            stage = ends.0;
            follows = subst (λ x. Follows act x es) at d.2.1;
            is = subst (λ x. v ≡ run x es) at d.2.3;
            forgets = ends.1;
            whole = λ quiet. ends.2 (quiet_call (Rose called.old.faults called.new.faults) (unlocking.is_device did.result) did.acted.cause.rose quiet);
          }
      go _ (Forgets paths nolock did) texts =
          let d = did.acted.did v called.ends in
          let at = from d.0 d.1 in
          let es = d.2.0 in
          let follows : Follows act w es = subst (λ x. Follows act x es) at d.2.1 in
          let ends =
          cleaned_runs act paths (texts paths nolock refl) nolock did.result w es (none_owned w H sound) follows
          (subst (λ x. HasCleaned paths nolock did.result x es) at d.2.2) in
          record {
            paths = paths;
            log = es;
            stage = ends.0;
            follows = follows;
            is = subst (λ x. v ≡ run x es) at d.2.3;
            forgets = ends.1;
            whole = λ quiet. ends.2 (quiet_call (Rose called.old.faults called.new.faults) (forgetting.is_device did.result) did.acted.cause.rose quiet);
          }

  -- ## The history

  -- a history, in which sources had no more than this
  abbrev IsPast : World → Versions → (List ℕ → Type 0) → Type 0
  IsPast w H Had = (past : History o w H) × ((a : List ℕ) → histories.HasHeld o w H past a → Had a)

  differs_in : (w : World) (H : Versions) (Had : List ℕ → Type 0) → DifferInSums Had → (past : IsPast w H Had) → histories.SumsDifferIn o w H past.0
  differs_in w H Had differ past = fewer_differ (histories.HasHeld o w H past.0) Had past.1 differ

  sound_in : (w : World) (H : Versions) (Had : List ℕ → Type 0) → DifferInSums Had → IsPast w H Had → SumsDiffer H × SoundWorld o w H
  sound_in w H Had differ past =
      let apart = differs_in w H Had differ past in (versions_differ o w H past.0 apart, every_world_sound o w H past.0 apart)

  past_of : (w : World) (H : Versions) (came : Came act w H) → SumsDifferIn act w H came → IsPast w H (HasHeld act w H came)
  past_of _ _ (Begin v new) differ = (histories.Begin v new, λ a h. h)
  past_of _ _ (Edit v K p bytes time read_only came can later now left) differ =
      let before = past_of v K came (λ a b had has. differ a b (inl had) (inl has)) in
      (histories.Go v _ K before.0 (histories.Edit p bytes time read_only can later now left), λ a. on_left (before.1 a))
  past_of _ _ (Remove v K p came outer) differ =
      let before = past_of v K came (λ a b had has. differ a b (inl had) (inl has)) in
      (histories.Go v _ K before.0 (histories.Remove p outer), λ a. on_left (before.1 a))
  past_of _ _ (Call v u K request told came called alone) differ =
      let earlier : SumsDifferIn act v K came = λ a b had has. differ a b (inl had) (inl has) in
      let before = past_of v K came earlier in
      let sound = sound_in v K (HasHeld act v K came) earlier before in
      let call = is_call v u K request told sound.0 sound.1 called in
      subst (λ (x : World). IsPast x (with_sources K (seen x)) (λ a. HasHeld act v K came a ⊎ IsHeld (seen x) a)) (sym call.1) (
        histories.Go v (run v call.0) K before.0 (histories.Call call.0 [] call.2 (subst (λ (x : World). x.children ≡ []) call.1 alone)),
        λ a. on_left (before.1 a),
      )
  past_of _ _ (Keep v u K request told came called quiet alone) differ =
      let earlier : SumsDifferIn act v K came = λ a b had has. differ a b (inl had) (inl has) in
      let before = past_of v K came earlier in
      let sound = sound_in v K (HasHeld act v K came) earlier before in
      let f = forgetting_of v u K request told sound.1 called in
      let call = forgetting_is_call o v f.paths f.log f.stage f.follows f.forgets in
      subst (λ (x : World). IsPast x (with_sources K (seen x)) (λ a. HasHeld act v K came a ⊎ IsHeld (seen x) a)) (sym f.is) (
        histories.Go v (run v f.log) K before.0
            (histories.Call f.log f.paths (subst (IsCall o v f.log f.paths) (ap is_resting (f.whole quiet)) call) (subst (λ (x : World). x.children ≡ []) f.is alone)),
        λ a. on_left (before.1 a),
      )
  past_of _ _ (Crash v u K request told log events rest nodes came called is split left) differ =
      let earlier : SumsDifferIn act v K came = λ a b had has. differ a b (inl had) (inl has) in
      let before = past_of v K came earlier in
      let sound = sound_in v K (HasHeld act v K came) earlier before in
      let call = is_call v u K request told sound.0 sound.1 called in
      let same = same_events v log call.0 (sym is ∙ call.1) in (
        histories.Go v _ K before.0
            (histories.Crash log events rest [] true nodes (subst (λ es. IsCall o v es [] true) (sym same) call.2) split left),
        λ a. on_left (before.1 a),
      )
  past_of _ _ (CrashKeeping v u K request told log events rest nodes came called is split left) differ =
      let earlier : SumsDifferIn act v K came = λ a b had has. differ a b (inl had) (inl has) in
      let before = past_of v K came earlier in
      let sound = sound_in v K (HasHeld act v K came) earlier before in
      let f = forgetting_of v u K request told sound.1 called in
      let call = forgetting_is_call o v f.paths f.log f.stage f.follows f.forgets in
      let same = same_events v log f.log (sym is ∙ f.is) in (
        histories.Go v _ K before.0
            (histories.Crash log events rest f.paths (is_resting f.stage) nodes (subst (λ es. IsCall o v es f.paths (is_resting f.stage)) (sym same) call) split left),
        λ a. on_left (before.1 a),
      )

pub came_is_history : CameIsHistory
came_is_history act w H came differ =
    let past = past_of act w H came differ in (past.0, differs_in act w H (HasHeld act w H came) differ past)

pub came_is_sound : CameIsSound
came_is_sound act w H came differ = sound_in act w H (HasHeld act w H came) differ (past_of act w H came differ)

pub headline : Headline
headline act w v H words told came differ called =
    record {
      tells =
          ran_tells (outside act) H w v sound.0 sound.1 reads_records words called.served.answer called.old called.new called.out_old called.out_new
          called.begins called.ends called.served.serves;
      clean =
          call_is_clean run_leaves_all_clean drives_end (outside act) H words told w v called.old called.new called.out_old called.out_new called.begins
          called.ends reads_records sound.0 sound.1 called.served;
      none_left = λ free.
          call_leaves_none run_leaves_all_clean drives_end (outside act) H words told w v called.old called.new called.out_old called.out_new called.begins
          called.ends reads_records sound.0 sound.1 free called.served;
      starts_nothing = λ free none same again x next.
          next_starts_nothing run_leaves_all_clean drives_end (outside act) H words told again w v called.old called.new next.old next.new called.out_old
          called.out_new next.out_old next.out_new called.begins called.ends next.begins reads_records sound.0 sound.1 free called.served none same next.served;
      finished = λ log is.
          let s = safe act w v H (Run words) told sound.0 sound.1 called in
          let same = same_events w s.0 log (sym s.2 ∙ is) in
          subst (StartsOnFinished (outside act) w) same (parts_start_on_finished (outside act) w H s.0 sound.0 sound.1 s.1 s.3.follows_protocol);
      complete = λ unrefused values never.
          call_is_complete act record_in words w v H told called.old called.new called.out_old called.out_new called.begins called.ends
          reads_records (record { differ = sound.0; sound = sound.1; unrefused = unrefused; values = values }) never called.served;
    }
  where
    sound : SumsDiffer H × SoundWorld (outside act) w H
    sound = came_is_sound act w H came differ
