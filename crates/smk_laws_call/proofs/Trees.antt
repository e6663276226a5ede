-- What stands in the folder that a run left which ended without a fault stands in folders: a call was made, and so it is after each call.
use Rattle.std.proofs.Common.{◌≡◌, ◌⊎◌, inl, inr, List, [], ◌∷◌, ◌++◌, refl, sym, subst, ◌∙◌, Option, Some, Result, Ok, Err}
use Rattle.std.proofs.lemmas.Option.{none-some}
use Rattle.smk_world.specs.declared.event.Event.{Event}
use Rattle.smk_world.specs.Devices.{Device, HasActed, Sunk}
use Rattle.smk_world.specs.Folders.{IsTree}
use Rattle.smk_world.specs.Requests.{HasDone}
use Rattle.smk_world.specs.Requests.Request.{Settle}
use Rattle.smk_world.specs.Runs.{Follows}
use Rattle.smk_world.specs.Trees.{Act, Path}
use Rattle.smk_world.specs.World.{World, after, run}
use Rattle.smk_world.proofs.Folders.{tree_run}
use Rattle.smk_record.specs.Spelling.{ReadsRecords}
use Rattle.smk_store.specs.Faults.{store_failed}
use Rattle.smk_store.specs.Soundness.{Outside, SoundWorld}
use Rattle.smk_store.specs.Steadying.{HasTried, all_signs, steady_requests}
use Rattle.smk_store.specs.Trust.{SumsDiffer, Versions}
use Rattle.smk_store.specs.declared.fault.StoreFault.{StoreFault}
use Rattle.smk_keep.specs.declared.fault.KeepFault.{KeepFault}
use Rattle.smk_report.specs.Faults.{of_store}
use Rattle.smk_report.specs.declared.fault.Fault.TheVariants as fault
use Rattle.smk_report.specs.declared.fault.Fault.{Fault}
use Rattle.smk_drive.specs.Moments.{Rules}
use Rattle.smk_drive_course.specs.Driven.{HasDriven, IsOpening, IsRun, LacksMemory, LoadingFails, LooksFail, Opens, SettlingFails}
use Rattle.smk_drive_course.specs.Stands.{Stand, first_stand}
use Rattle.smk_drive_course.specs.Steps.{Deed, GoesByAnswer}
use Rattle.smk_drive_course.specs.declared.ending.End.{End}
use Rattle.smk_laws_moments.proofs.Fates.{first_fault_stays}
use Rattle.smk_make.specs.Making.{GoesOn, Made, NoMemory, NotFirm}
use Rattle.smk_plan_preview.specs.Previewing.{rules_for}
use Rattle.smk_plan_preview.specs.declared.previewing.Previewed.{Previewed}
use Rattle.smk_words_reading.specs.declared.asked.RunWords.{RunWords}
use Rattle.smk_cli_entry.specs.declared.asking.Asked.{Asked}
use Rattle.smk_cli_calls.specs.Locking.{HasHeeded, Stood, Taken, Unmade, Untaken}
use Rattle.smk_cli_calls.specs.Serving.{Drove, HasWorked, Refused, Stopped, WasDriven, Went, Worked, answer_of, settings_of}
use Rattle.smk_cli_calls.specs.Whole.{AsksFor, HasRun, Heeded, IsRefusal, IsToServe, Unasked, Unheeded}
use Rattle.smk_cli_calls.proofs.Driving.{rules_are}
use Rattle.smk_clean.proofs.Locked.{under_lock}
use Rattle.smk_clean.proofs.Safe.{Answer, ok_err}

-- ## Events

some_tree : (act : Act) (w : World) (e : Event) (es : List Event) → Follows act w (e ∷ es) → IsTree (run w (e ∷ es))
some_tree act w e es follows = tree_run act (after w e) es follows.0.tree follows.1

mid_tree : (act : Act) (w : World) (es fs : List Event) (e : Event) → Follows act w (es ++ e ∷ fs) → IsTree (run w (es ++ e ∷ fs))
mid_tree act w [] fs e follows = some_tree act w e fs follows
mid_tree act w (x ∷ es) fs e follows = some_tree act w x (es ++ e ∷ fs) follows

settled_tree : (act : Act) (w : World) (ps : List Path) (es : List Event) → HasDone (Settle ps ∷ []) es → Follows act w es → IsTree (run w es)
settled_tree act w ps [] done follows = absurd done
settled_tree act w ps (e ∷ es) done follows = some_tree act w e es follows

-- ## A run that is driven

came_to_end : (driven : Result End Fault) (u : Unit {0}) → ◌≡◌ {A = Answer} (Ok u) (answer_of driven) → (end : End) × (driven ≡ Ok end)
came_to_end (Ok end) u h = (end, refl)
came_to_end (Err f) u h = absurd (ok_err u f h)

module _ (act : Act) (rules : Rules) (told : Option End) (end : End) (deeds : List Deed) (w : World) (es : List Event) (follows : Follows act w es)
    (r : IsRun rules told (Ok end) deeds w es) where
  -- no fault came as it opened, since none had come at the end
  no_fault : (f : Fault) → r.start.halted ≡ Some f → ⊥
  no_fault f halted =
      none-some f (sym r.answer.1.unhalted ∙ (first_fault_stays rules w r.start r.last (run w r.opening) r.opening r.rest deeds r.steps f halted).0)

  halted_so : (f : Fault) (s : Stand) → s.halted ≡ Some f → r.start ≡ s → ⊥
  halted_so f s halted is = no_fault f (subst (λ (x : Stand). x.halted ≡ Some f) (sym is) halted)

  ran_tree : IsTree (run w es)
  ran_tree = go r.opened r.opening r.opens r.events r.goes_by
    where
      settled : (loading settling looks : List Event) (places : List Path) → HasDone (Settle places ∷ []) settling →
          Follows act w ((loading ++ (settling ++ looks)) ++ r.rest) → IsTree (run w ((loading ++ (settling ++ looks)) ++ r.rest))
      settled loading [] looks places done follows = absurd done
      settled [] (e ∷ settling) looks places done follows = some_tree act w e ((settling ++ looks) ++ r.rest) follows
      settled (x ∷ loading) (e ∷ settling) looks places done follows = some_tree act w x ((loading ++ (e ∷ settling ++ looks)) ++ r.rest) follows

      go :
          (opened : Result (Unit {0}) KeepFault) (opening : List Event) → IsOpening rules w opened opening → es ≡ opening ++ r.rest →
          GoesByAnswer rules w opened (first_stand r.plan) w [] r.start → IsTree (run w es)
      go opened opening (Opens loading settling looks places load signs done look) split by =
          subst (λ l. IsTree (run w l)) (sym split) (settled loading settling looks places done (subst (Follows act w) split follows))
      go opened opening (LacksMemory loading load) split by = absurd (halted_so fault.OutOfMemory _ refl by)
      go opened opening (LoadingFails loading load) split by = absurd (halted_so fault.Device _ refl by)
      go opened opening (SettlingFails loading settling places load signs cut) split by = absurd (halted_so fault.Device _ refl by)
      go opened opening (LooksFail loading settling looks places load signs done look) split by = absurd (halted_so fault.Device _ refl by)

-- ## Once it is known what is asked

module _ (o : Outside) (reads : ReadsRecords o.read) (words : RunWords) where
  drove_tree :
      (u : Unit {0}) (answer : Answer) (asked : Asked) (v : World) (old new : Device) (p q : Sunk) → new.world ≡ Some v → answer ≡ Ok u →
      WasDriven o.act words answer asked old new p q → IsTree v
  drove_tree u answer asked v old new p q ends e was = go was.answers
    where
      rules : Rules
      rules = rules_for o.read asked.flow (settings_of asked words)

      by : (end : End) → HasDriven o.act rules (Ok end) was.looked new p q → IsTree v
      by end drove =
          let d = drove.ran.did v ends in
          subst IsTree (sym d.2.3) (ran_tree o.act rules drove.told end drove.deeds d.0 d.2.0 d.2.1 d.2.2)

      go : (answer ≡ answer_of was.driven) ⊎ (answer ≡ Err fault.OutOfMemory) → IsTree v
      go (inl h) =
          let came = came_to_end was.driven u (sym e ∙ h) in
          by came.0 (subst (λ r. HasDriven o.act rules r was.looked new p q) came.1 (was.drove rules (rules_are o.read reads asked.flow (settings_of asked words))))
      go (inr h) = absurd (ok_err u fault.OutOfMemory (sym e ∙ h))

  worked_tree :
      (u : Unit {0}) (answer : Answer) (asked : Asked) (told : Previewed) (v : World) (old new : Device) (p q : Sunk) → new.world ≡ Some v → answer ≡ Ok u →
      HasWorked o.act words.cores answer asked told old new p q → IsTree v
  worked_tree u answer asked told v old new p q ends e worked = go worked.carried.settled worked.carried.settling worked.carried.goes_on
    where
      go :
          (settled : Result (Unit {0}) StoreFault) →
          HasActed o.act (HasTried (steady_requests told.store) settled) worked.looked worked.carried.firm (store_failed settled) →
          GoesOn o.act asked.flow words.cores asked.targets told.jobs told.plan.states told.store answer worked.carried.firm new p q settled → IsTree v
      go settled settling (NotFirm f is same unput) = absurd (ok_err u (of_store f) (sym e ∙ is))
      go settled settling (NoMemory t is same unput) = absurd (ok_err u fault.OutOfMemory (sym e ∙ is))
      go settled settling (Made t duties for meant made) =
          let d = made.ran.did v ends in
          let s = settling.did d.0 d.1 in
          subst IsTree (sym d.2.3)
          (tree_run o.act d.0 d.2.0 (subst IsTree (sym s.2.3) (settled_tree o.act s.0 (all_signs told.store) s.2.0 s.2.2 s.2.1)) d.2.1)

  went_tree :
      (u : Unit {0}) (entry w : World) (answer : Answer) (v : World) (old new : Device) (p q : Sunk) → new.world ≡ Some v → answer ≡ Ok u →
      Went o.act words answer (IsRefusal o.read words entry w) (AsksFor words entry) (IsToServe o.read words entry w) old new p q → IsTree v
  went_tree u entry w answer v old new p q ends e (Refused f is why looked) = absurd (ok_err u f (sym e ∙ is))
  went_tree u entry w answer v old new p q ends e (Stopped f is want looked) = absurd (ok_err u f (sym e ∙ is))
  went_tree u entry w answer v old new p q ends e (Worked asked told one plans worked) = worked_tree u answer asked told v old new p q ends e worked
  went_tree u entry w answer v old new p q ends e (Drove asked apart asks drove) = drove_tree u answer asked v old new p q ends e drove

  -- ## A run

  module _ (H : Versions) (w : World) (differ : SumsDiffer H) (sound : SoundWorld o w H) where
    pub tree_left :
        (u : Unit {0}) (answer : Answer) (x : World) (old new : Device) (p q : Sunk) → old.world ≡ Some w → new.world ≡ Some x → answer ≡ Ok u →
        HasRun o.act o.read words w answer old new p q → IsTree x
    tree_left u answer x old new p q at ends e (Unheeded free went) = went_tree u w w answer x old new p q ends e went
    tree_left u answer x old new p q at ends e (Unasked f heeds is why looked) = absurd (ok_err u f (sym e ∙ is))
    tree_left u answer x old new p q at ends e (Heeded v looked heeds after at_v looking heeded) = go heeded
      where
        go : HasHeeded o.act words answer (IsRefusal o.read words w) (AsksFor words w) (IsToServe o.read words w) v looked new p q → IsTree x
        go (Unmade is same unput) = absurd (ok_err u fault.OutOfMemory (sym e ∙ is))
        go (Stood is stands tried unput) = absurd (ok_err u fault.Locked (sym e ∙ is))
        go (Untaken y is tried unput) = absurd (ok_err u fault.Device (sym e ∙ is))
        go (Taken start locked once at_start taken ran) =
            let k = under_lock o H w differ sound words answer old looked locked new p q v start x at ends after looking at_v once at_start taken ran in
            subst IsTree (sym k.end_is)
            (tree_run o.act k.last k.release (went_tree tt w k.start k.ran k.last k.locked k.left p q k.at_last (k.well u e) k.went) k.follows_release)
