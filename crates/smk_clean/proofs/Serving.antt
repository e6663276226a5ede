-- A call is safe, whatever is asked.
use Rattle.std.proofs.Common.{◌≡◌, inl, inr, Bool, true, false, [], ◌++◌, refl, ap, sym, subst, ◌∙◌, Some, Result, Ok, Err}
use Rattle.std.proofs.lemmas.Option.{same_Some}
use Rattle.smk_world.specs.declared.event.Failed.{Failed}
use Rattle.smk_world.specs.World.{World, IsFormed, run}
use Rattle.smk_world.specs.Devices.{Device, Sunk, HasActed}
use Rattle.smk_world.specs.Runs.{Follows}
use Rattle.smk_world.proofs.Names.{formed_run}
use Rattle.smk_world.proofs.Runs.{follows_append, run_append}
use Rattle.smk_record.specs.Spelling.{ReadsRecords}
use Rattle.smk_store.specs.Soundness.{Outside, SoundWorld}
use Rattle.smk_store.specs.Trust.{Versions, SumsDiffer}
use Rattle.smk_keep_lock.specs.Locking.{HasTaken}
use Rattle.smk_report.specs.declared.fault.Fault.{Fault}
use Rattle.smk_report.specs.declared.fault.Fault.TheVariants as fault
use Rattle.smk_words_reading.specs.declared.asked.Asked.{Asked as Asking}
use Rattle.smk_words_reading.specs.declared.asked.Asked.TheVariants.{Run, Preview, Unlock, Forget, Generate}
use Rattle.smk_words_reading.specs.declared.asked.RunWords.{RunWords}
use Rattle.smk_cli_entry.specs.Faults.{device_failed, is_device}
use Rattle.smk_cli_calls.specs.Locking.{HasHeeded, IsAfterLooks, Stood, Taken, Unmade, Untaken}
use Rattle.smk_cli_calls.specs.Whole.{AsksFor, HasRun, Heeded, IsRefusal, IsToServe, Serves, Unasked, Unheeded}
use Rattle.smk_laws_refusing.specs.Parts.{AreRuns, IsRun, One, Then}
use Rattle.smk_laws_refusing.proofs.Parts.{runs_append}
use Rattle.smk_clean.specs.Safe.{CallIsSafe}
use Rattle.smk_clean.proofs.Locked.{IsUnderLock, taking_run, under_lock}
use Rattle.smk_clean.proofs.Safe.{Answer, Safely, looked_safe, no_fault, ok_err}
use Rattle.smk_clean.proofs.Driving.{safe_parts, went_safe}

module _ (o : Outside) (H : Versions) (w : World) (differ : SumsDiffer H) (sound : SoundWorld o w H) where
  abbrev SafelySo : Answer → World → Type 0
  SafelySo answer v = Safely o H w differ sound answer v

  -- ## The lock isn't taken

  -- looks, and calls on the lock
  tried_safe :
      (f : Fault) (r : Result Bool Failed) (answer : Answer) (v x : World) (looked new : Device)
      (bad : Bool) → answer ≡ Err f → IsAfterLooks o.act w v → looked.world ≡ Some v → new.world ≡ Some x →
      HasActed o.act (HasTaken r) looked new bad → SafelySo answer x
  tried_safe f r answer v x looked new bad is after at_v end tried =
      let d = tried.did x end in
      let here : d.0 ≡ run w after.looks = same_Some d.0 v (sym d.1 ∙ at_v) ∙ after.is in
      let es = after.looks ++ d.2.0 in
      safe_parts o H w differ sound answer x es (follows_append o.act w after.looks d.2.0 after.follows (subst (λ y. Follows o.act y d.2.0) here d.2.1))
      (d.2.3 ∙ ap (λ y. run y d.2.0) here ∙ sym (run_append w after.looks d.2.0))
      (One w es (taking_run o r w after.looks d.2.0 sound.formed after.only_looks (subst (λ y. HasTaken r y d.2.0) here d.2.2)))
      (λ u e. absurd (ok_err u f (sym e ∙ is)))

  -- ## Under the lock

  locked_safe : (reads : ReadsRecords o.read) (words : RunWords) (answer : Answer) (new : Device) (p q : Sunk) (x : World) →
      IsUnderLock o H w differ sound words answer new p q x → SafelySo answer x
  locked_safe reads words answer new p q x k =
      let inner = went_safe o H k.start differ k.sound_then reads words w k.ran k.last k.locked k.left p q k.at_start k.at_last k.went in
      let es = k.front ++ inner.0 in
      let there : k.last ≡ run w es = inner.2 ∙ ap (λ y. run y inner.0) k.is ∙ sym (run_append w k.front inner.0) in
      let follows : Follows o.act w es = follows_append o.act w k.front inner.0 k.follows (subst (λ y. Follows o.act y inner.0) k.is inner.1) in
      let runs : AreRuns o w es =
      Then w k.front inner.0 es k.first (subst (λ (y : World). y.children ≡ []) k.is k.sound_then.no_child)
      (subst (λ y. AreRuns o y inner.0) k.is inner.3.follows_protocol) refl in
      elim k.released [
        | inl none ↦
            let is : x ≡ k.last = k.end_is ∙ ap (run k.last) none in
            safe_parts o H w differ sound answer x es follows (is ∙ there) runs
            (λ u e. subst (λ (y : World). y.children ≡ []) (sym is) (inner.4 tt (k.well u e)).no_child)
        | inr (alone, after, release) ↦
            let formed : IsFormed k.last = subst IsFormed (sym there) (formed_run w es sound.formed) in
            let last = release formed in
            let quiet : (run w es).children ≡ [] = subst (λ (y : World). y.children ≡ []) there alone in
            safe_parts o H w differ sound answer x (es ++ k.release) (follows_append o.act w es k.release follows (subst (λ y. Follows o.act y k.release) there k.follows_release))
            (k.end_is ∙ ap (λ y. run y k.release) there ∙ sym (run_append w es k.release))
            (runs_append o w es k.release runs quiet (One (run w es) k.release (subst (λ y. IsRun o y k.release) there last)))
            (λ u e. after)
      ]

  -- ## Requests

  ran_safe : (reads : ReadsRecords o.read) (words : RunWords) (answer : Answer) (x : World) (old new : Device) (p q : Sunk) → old.world ≡ Some w →
      new.world ≡ Some x → HasRun o.act o.read words w answer old new p q → SafelySo answer x
  ran_safe reads words answer x old new p q at end (Unheeded free went) = went_safe o H w differ sound reads words w answer x old new p q at end went
  ran_safe reads words answer x old new p q at end (Unasked f heeds is why looked) = looked_safe o H w differ sound answer x old new
      (is_device f) at end looked.looked
  ran_safe reads words answer x old new p q at end (Heeded v looked heeds after at_v looking heeded) = go heeded
    where
      go : HasHeeded o.act words answer (IsRefusal o.read words w) (AsksFor words w) (IsToServe o.read words w) v looked new p q → SafelySo answer x
      go (Unmade is same unput) = looked_safe o H w differ sound answer x old looked false at (sym (ap (λ (d : Device). d.world) same) ∙ end) looking
      go (Stood is stands tried unput) = tried_safe fault.Locked (Ok false) answer v x looked new false is after at_v end tried
      go (Untaken e is tried unput) = tried_safe fault.Device (Err e) answer v x looked new true is after at_v end tried
      go (Taken start locked once at_start taken ran) =
          locked_safe reads words answer new p q x
          (under_lock o H w differ sound words answer old looked locked new p q v start x at end after looking at_v once at_start taken ran)

  serves_safe :
      (reads : ReadsRecords o.read) (request : Asking) (answer : Answer) (v : World) (old new : Device) (p q : Sunk) → old.world ≡ Some w → new.world ≡ Some v →
      (h : Serves o.act o.read w answer old new p q request) → SafelySo answer v
  serves_safe reads (Run words) answer v old new p q at end h = ran_safe reads words answer v old new p q at end h
  serves_safe reads (Preview words) answer v old new p q at end h = looked_safe o H w differ sound answer v old new (device_failed answer) at end h.0
  serves_safe reads Unlock answer v old new p q at end h = absurd h
  serves_safe reads (Forget paths nolock) answer v old new p q at end h = absurd h
  serves_safe reads (Generate seed size) answer v old new p q at end h = absurd h

pub call_is_safe : CallIsSafe
call_is_safe o H request told w v old new p q at end reads differ sound served =
    let s = serves_safe o H w differ sound reads request served.answer v old new p q at end served.serves in
    (s.0, s.1, s.2, s.3, λ none. let a = no_fault served.answer told served.told_is none in s.4 a.0 a.1)
