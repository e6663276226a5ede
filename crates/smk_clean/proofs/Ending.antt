-- A call that ends without a fault leaves clean values.
use Rattle.std.proofs.Common.{◌≡◌, ◌⊎◌, inl, inr, false, refl, sym, subst, ◌∙◌, Option, Some, None, Result, Ok, Err, is_none}
use Rattle.smk_world.specs.World.{World, IsFormed}
use Rattle.smk_world.specs.Devices.{Device, Sunk}
use Rattle.smk_world.specs.Trees.{Each}
use Rattle.smk_world.proofs.Names.{formed_run}
use Rattle.smk_record.specs.Spelling.{ReadsRecords}
use Rattle.smk_store.specs.Faults.{store_failed}
use Rattle.smk_store.specs.Images.{Image, seen}
use Rattle.smk_store.specs.Soundness.{Outside, SoundWorld, SameSources}
use Rattle.smk_store.specs.Trust.{Versions, SumsDiffer}
use Rattle.smk_format.specs.Commands.{missing}
use Rattle.smk_chain.specs.Mean.{setting_of}
use Rattle.smk_laws_plan.specs.Current.{IsClean}
use Rattle.smk_pick.specs.declared.settings.Settings.{Settings}
use Rattle.smk_report.specs.declared.fault.Fault.{Fault}
use Rattle.smk_report.specs.declared.fault.Fault.TheVariants as fault
use Rattle.smk_drive.specs.Moments.{Rules}
use Rattle.smk_drive_course.specs.declared.ending.End.{End}
use Rattle.smk_drive_course.specs.Driven.{HasDriven}
use Rattle.smk_laws_driven.specs.Ended.{DrivenIsClean, DrivenLeavesNone, DrivenTells}
use Rattle.smk_words_reading.specs.declared.asked.RunWords.{RunWords}
use Rattle.smk_words_reading.specs.declared.asked.Asked.TheVariants.{Run as Asks}
use Rattle.smk_cli_entry.specs.declared.asking.Asked.{Asked}
use Rattle.smk_plan_preview.specs.Previewing.{rules_for}
use Rattle.smk_plan_preview.proofs.LookedAt.{kept, seen_moved}
use Rattle.smk_cli_calls.specs.Serving.{Went, Refused, Stopped, Worked, Drove, WasDriven, answer_of, settings_of}
use Rattle.smk_cli_calls.proofs.Driving.{rules_are}
use Rattle.smk_cli_calls.proofs.OneByOne.{none_forced, none_grow}
use Rattle.smk_cli_calls.specs.Locking.{HasHeeded, Stood, Taken, Unmade, Untaken}
use Rattle.smk_cli_calls.specs.Whole.{AsksFor, HasRun, HasServed, Heeded, IsRefusal, IsToServe, Unasked, Unheeded}
use Rattle.smk_pick.specs.declared.settings.Force.TheVariants.{No}
use Rattle.smk_laws_refusing.proofs.Heeding.{lock_changes_itself_alone}
use Rattle.smk_safe.specs.Exit.{RunLeavesAllClean}
use Rattle.smk_clean.specs.Again.{HasNoneLeft, CallLeavesNone}
use Rattle.smk_clean.specs.Clean.{CallIsClean}
use Rattle.smk_clean.proofs.Clean.{HasEndedWell, goes_clean, moved_end, no_first}
use Rattle.smk_clean.proofs.Driving.{driven_safely}
use Rattle.smk_clean.proofs.Locked.{IsUnderLock, under_lock}
use Rattle.smk_clean.proofs.Safe.{Answer, looked_safe, no_fault, ok_err}

-- ## A run that is driven

-- what it leaves that came to its end
pub record DrivenEnds : Type 0 where
  pub tells : DrivenTells
  pub clean : DrivenIsClean
  pub none_left : DrivenLeavesNone

-- where the call has no fault the run came to its end, and no job failed
record CameToEnd (driven : Result End Fault) : Type 0 where
  end : End
  is : driven ≡ Ok end
  none_failed : end.first ≡ None

came_to_end : (driven : Result End Fault) (u : Unit {0}) → (◌≡◌ {A = Answer} (Ok u) (answer_of driven)) ⊎ (◌≡◌ {A = Answer} (Ok u) (Err fault.OutOfMemory)) → CameToEnd driven
came_to_end (Ok end) u (inl h) = record { end = end; is = refl; none_failed = no_first end.first u h }
came_to_end (Ok end) u (inr h) = absurd (ok_err u fault.OutOfMemory h)
came_to_end (Err f) u (inl h) = absurd (ok_err u f h)
came_to_end (Err f) u (inr h) = absurd (ok_err u fault.OutOfMemory h)

module _ (drives : DrivenEnds) (o : Outside) (H : Versions) (w : World) (differ : SumsDiffer H) (sound : SoundWorld o w H) (reads : ReadsRecords o.read)
    (words : RunWords) where
  module _ (entry : World) (asked : Asked) (asks : AsksFor words entry asked) where
    abbrev settings : Settings
    settings = settings_of asked words

    abbrev rules : Rules
    rules = rules_for o.read asked.flow settings

    drove_clean :
        (u : Unit {0}) (v : World) (old new : Device) (p q : Sunk) → old.world ≡ Some w → new.world ≡ Some v →
        WasDriven o.act words (Ok u) asked old new p q → HasEndedWell o words entry w v
    drove_clean u v old new p q at ends was =
        let k = kept w was.looking at in
        let x : World = k.0 in
        let sound_then : SoundWorld o x H = (looked_safe o H w differ sound (Ok tt) x old was.looked false at k.1 was.looking).4 tt refl in
        let came = came_to_end was.driven u was.answers in
        let ran : HasDriven o.act rules (Ok came.end) was.looked new p q =
        subst (λ r. HasDriven o.act rules r was.looked new p q) came.is (was.drove rules (rules_are o.read reads asked.flow settings)) in
        let told = drives.tells o rules H came.end x v was.looked new p q k.1 ends refl reads differ sound_then ran in
        let clean = drives.clean o rules H came.end x v was.looked new p q k.1 ends refl reads differ sound_then ran came.none_failed in
        let safe = driven_safely o H w differ sound reads words asked (Ok u) v old new p q at ends was in
        record {
          asked = asked;
          is_asked = asks;
          targets = subst (λ (i : Image). Each (IsClean (setting_of asked.flow o.act (λ j. is_none (missing j)) i) (seen o.read v)) asked.targets)
              (seen_moved o.read w x k.2) clean;
          sources = subst (λ (i : Image). SameSources i (seen o.read v)) (seen_moved o.read w x k.2) told.sources;
          left = λ free.
              let none = drives.none_left o rules H came.end x v was.looked new p q k.1 ends refl reads differ sound_then ran free came.none_failed in
              record { plan = none.plan; last = none.last; clean = none.clean; current = none.current };
          formed = (safe.4 u refl).formed;
        }

-- ## A run

module _ (exit : RunLeavesAllClean) (drives : DrivenEnds) (o : Outside) (H : Versions) (w : World) (differ : SumsDiffer H) (sound : SoundWorld o w H) (reads : ReadsRecords o.read)
    (words : RunWords) where
  went_clean :
      (u : Unit {0}) (entry : World) (answer : Answer) (v : World) (old new : Device) (p q : Sunk) → old.world ≡ Some w → new.world ≡ Some v → answer ≡ Ok u →
      (h : Went o.act words answer (IsRefusal o.read words entry w) (AsksFor words entry) (IsToServe o.read words entry w) old new p q) →
      HasEndedWell o words entry w v
  went_clean u entry (Err g) v old new p q at ends e h = absurd (ok_err u g (sym e))
  went_clean u entry (Ok t) v old new p q at ends e (Refused f is why looked) = absurd (ok_err t f is)
  went_clean u entry (Ok t) v old new p q at ends e (Stopped f is want looked) = absurd (ok_err t f is)
  went_clean u entry (Ok t) v old new p q at ends e (Drove asked apart is drove) =
      drove_clean drives o H w differ sound reads words entry asked is t v old new p q at ends drove
  went_clean u entry (Ok t) v old new p q at ends e (Worked asked told one plans worked) =
      goes_clean o H w differ sound reads words entry asked told plans (none_grow asked.flow words one) exit (none_forced asked.flow words one) t v old worked.looked worked.carried.firm new p q worked.carried.settled
      (store_failed worked.carried.settled) at ends
      worked.looking worked.carried.settling worked.carried.goes_on

module _ (exit : RunLeavesAllClean) (drives : DrivenEnds) (o : Outside) (H : Versions) (w : World) (differ : SumsDiffer H) (sound : SoundWorld o w H) (reads : ReadsRecords o.read)
    (words : RunWords) where
  -- under the lock
  locked_clean : (u : Unit {0}) (answer : Answer) (x : World) (new : Device) (p q : Sunk) → answer ≡ Ok u →
      IsUnderLock o H w differ sound words answer new p q x → HasEndedWell o words w w x
  locked_clean u answer x new p q e k =
      let ended = went_clean exit drives o H k.start differ k.sound_then reads words tt w k.ran k.last k.locked k.left p q k.at_start k.at_last
      (k.well u e) k.went in
      let formed : IsFormed x = subst IsFormed (sym k.end_is) (formed_run k.last k.release ended.formed) in
      moved_end o words w w k.start k.last x k.same_start (lock_changes_itself_alone o.read k.last x ended.formed formed k.only) formed ended

  ran_clean :
      (u : Unit {0}) (answer : Answer) (x : World) (old new : Device) (p q : Sunk) → old.world ≡ Some w → new.world ≡ Some x → answer ≡ Ok u →
      HasRun o.act o.read words w answer old new p q →
      HasEndedWell o words w w x
  ran_clean u answer x old new p q at ends e
      (Unheeded heeds_none went) = went_clean exit drives o H w differ sound reads words u w answer x old new p q at ends e went
  ran_clean u answer x old new p q at ends e (Unasked f heeds is why looked) = absurd (ok_err u f (sym e ∙ is))
  ran_clean u answer x old new p q at ends e (Heeded v looked heeds after at_v looking heeded) = go heeded
    where
      go : HasHeeded o.act words answer (IsRefusal o.read words w) (AsksFor words w) (IsToServe o.read words w) v looked new p q → HasEndedWell o words w w x
      go (Unmade is same unput) = absurd (ok_err u fault.OutOfMemory (sym e ∙ is))
      go (Stood is stands tried unput) = absurd (ok_err u fault.Locked (sym e ∙ is))
      go (Untaken y is tried unput) = absurd (ok_err u fault.Device (sym e ∙ is))
      go (Taken start locked once at_start taken ran) =
          locked_clean u answer x new p q e
          (under_lock o H w differ sound words answer old looked locked new p q v start x at ends after looking at_v once at_start taken ran)

module _ (exit : RunLeavesAllClean) (drives : DrivenEnds) where
  -- by what a run leaves
  pub ended_well :
      (o : Outside) (H : Versions) (words : RunWords) (told : Option Fault) (w v : World) (old new : Device) (p q : Sunk) → old.world ≡ Some w → new.world ≡ Some v →
      ReadsRecords o.read → SumsDiffer H → SoundWorld o w H → HasServed o.act o.read (Asks words) w told old new p q → told ≡ None → HasEndedWell o words w w v
  ended_well o H words told w v old new p q at ends reads differ sound served none =
      let a = no_fault served.answer told served.told_is none in
      ran_clean exit drives o H w differ sound reads words a.0 served.answer v old new p q at ends a.1 served.serves

  pub none_left :
      (o : Outside) (words : RunWords) (w v : World) → words.force ≡ No → HasEndedWell o words w w v → HasNoneLeft o words w v
  none_left o words w v free h =
      let left = h.left free in
      record { asked = h.asked; is_asked = h.is_asked; plan = left.plan; last = left.last; clean = left.clean; current = left.current }

  pub call_is_clean : CallIsClean
  call_is_clean o H words told w v old new p q at ends reads differ sound served none =
      let h = ended_well o H words told w v old new p q at ends reads differ sound served none in record {
        asked = h.asked;
        is_asked = h.is_asked;
        targets = h.targets;
        sources = h.sources;
      }

  pub call_leaves_none : CallLeavesNone
  call_leaves_none o H words told w v old new p q at ends reads differ sound free served none = none_left o words w v free
      (ended_well o H words told w v old new p q at ends reads differ sound served none)
