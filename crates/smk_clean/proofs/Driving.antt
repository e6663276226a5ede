-- A run is safe, whether its jobs are made one after another or it is driven.
use Rattle.std.proofs.Common.{◌≡◌, ◌⊎◌, inl, inr, true, false, List, [], ◌++◌, refl, ap, sym, subst, ◌∙◌, Some, Result, Ok, Err, is_ok}
use Rattle.smk_world.specs.declared.event.Event.{Event}
use Rattle.smk_world.specs.World.{World, run}
use Rattle.smk_world.specs.Devices.{Device, Sunk}
use Rattle.smk_world.specs.Runs.{Follows}
use Rattle.smk_world.proofs.Runs.{follows_append, run_append}
use Rattle.smk_record.specs.Spelling.{ReadsRecords}
use Rattle.smk_store.specs.Faults.{store_failed}
use Rattle.smk_store.specs.Soundness.{Outside, SoundWorld}
use Rattle.smk_store.specs.Trust.{Versions, SumsDiffer}
use Rattle.smk_report.specs.declared.fault.Fault.{Fault}
use Rattle.smk_report.specs.declared.fault.Fault.TheVariants as fault
use Rattle.smk_pick.specs.declared.settings.Settings.{Settings}
use Rattle.smk_drive.specs.Moments.{Rules}
use Rattle.smk_drive_course.specs.declared.ending.End.{End}
use Rattle.smk_laws_driven.specs.Driven.{IsSafeDrive}
use Rattle.smk_laws_driven.proofs.Safe.{driven_is_safe}
use Rattle.smk_words_reading.specs.declared.asked.RunWords.{RunWords}
use Rattle.smk_cli_entry.specs.declared.asking.Asked.{Asked}
use Rattle.smk_cli_entry.specs.Faults.{is_device}
use Rattle.smk_plan_preview.specs.Previewing.{rules_for}
use Rattle.smk_cli_calls.specs.Serving.{Went, Refused, Stopped, Worked, Drove, WasDriven, answer_of, settings_of}
use Rattle.smk_cli_calls.proofs.Driving.{rules_are}
use Rattle.smk_cli_calls.proofs.OneByOne.{none_grow}
use Rattle.smk_cli_calls.specs.Whole.{AsksFor, IsRefusal, IsToServe}
use Rattle.smk_laws_refusing.specs.Parts.{AreRuns, One}
use Rattle.smk_laws_refusing.proofs.Parts.{parts_are_safe, runs_append}
use Rattle.smk_clean.proofs.Safe.{Answer, Safely, goes_safe, looked_safe, ok_err}

-- where the call has no fault the run came to its end
well_driven : (driven : Result End Fault) (answer : Answer) (u : Unit {0}) → (answer ≡ answer_of driven) ⊎ (answer ≡ Err fault.OutOfMemory) → answer ≡ Ok u → is_ok driven ≡ true
well_driven (Ok end) answer u h e = refl
well_driven (Err f) answer u (inl h) e = absurd (ok_err u f (sym e ∙ h))
well_driven (Err f) answer u (inr h) e = absurd (ok_err u fault.OutOfMemory (sym e ∙ h))

module _ (o : Outside) (H : Versions) (w : World) (differ : SumsDiffer H) (sound : SoundWorld o w H) where
  abbrev SafelySo : Answer → World → Type 0
  SafelySo answer v = Safely o H w differ sound answer v

  -- events that are runs of the protocol
  pub safe_parts : (answer : Answer) (v : World) (es : List Event) → Follows o.act w es → v ≡ run w es → AreRuns o w es →
      ((u : Unit {0}) → answer ≡ Ok u → v.children ≡ []) → SafelySo answer v
  safe_parts answer v es follows is runs alone =
      let k = parts_are_safe o w H es differ sound follows runs in (
        es,
        follows,
        is,
        record { follows_protocol = runs; throughout = k.throughout; at_end = k.at_end },
        λ u e. subst (λ x. SoundWorld o x H) (sym is) (k.at_end (subst (λ (x : World). x.children ≡ []) is (alone u e))),
      )

  module _ (reads : ReadsRecords o.read) where
    -- looks, and then what was driven
    drove_safe :
        (driven : Result End Fault) (answer : Answer) (x v : World) (es : List Event) → Follows o.act w es → x ≡ run w es → AreRuns o w es →
        SoundWorld o x H → IsSafeDrive o H driven x v → ((u : Unit {0}) → answer ≡ Ok u → is_ok driven ≡ true) → SafelySo answer v
    drove_safe driven answer x v es follows is runs sound_then k well =
        let all = es ++ k.events in
        let quiet : (run w es).children ≡ [] = subst (λ (y : World). y.children ≡ []) is sound_then.no_child in
        safe_parts answer v all (follows_append o.act w es k.events follows (subst (λ y. Follows o.act y k.events) is k.follows))
        (k.is ∙ ap (λ y. run y k.events) is ∙ sym (run_append w es k.events))
        (runs_append o w es k.events runs quiet (subst (λ y. AreRuns o y k.events) is (One x k.events k.by_protocol)))
        (λ u e. (k.well (well u e)).no_child)

    pub driven_safely :
        (words : RunWords) (asked : Asked) (answer : Answer) (v : World) (old new : Device) (p q : Sunk) → old.world ≡ Some w → new.world ≡ Some v →
        WasDriven o.act words answer asked old new p q → SafelySo answer v
    driven_safely words asked answer v old new p q at end was =
        let settings : Settings = settings_of asked words in
        let rules : Rules = rules_for o.read asked.flow settings in
        let drove = was.drove rules (rules_are o.read reads asked.flow settings) in
        let d = drove.ran.did v end in
        let first = looked_safe o H w differ sound (Ok tt) d.0 old was.looked false at d.1 was.looking in
        let sound_then : SoundWorld o d.0 H = first.4 tt refl in
        drove_safe was.driven answer d.0 v first.0 first.1 first.2 first.3.follows_protocol sound_then
        (driven_is_safe o rules H was.driven d.0 v was.looked new p q d.1 end refl reads differ sound_then drove)
        (λ u e. well_driven was.driven answer u was.answers e)

    pub went_safe :
        (words : RunWords) (entry : World) (answer : Answer) (v : World) (old new : Device)
        (p q : Sunk) → old.world ≡ Some w → new.world ≡ Some v →
        (h : Went o.act words answer (IsRefusal o.read words entry w) (AsksFor words entry) (IsToServe o.read words entry w) old new p q) → SafelySo answer v
    went_safe words entry answer v old new p q at end (Refused f is why looked) = looked_safe o H w differ sound answer v old new (is_device f) at end looked.looked
    went_safe words entry answer v old new p q at end (Stopped f is want looked) = looked_safe o H w differ sound answer v old new (is_device f) at end looked.looked
    went_safe words entry answer v old new p q at end (Worked asked told one plans worked) =
        goes_safe o H w differ sound reads words entry asked told plans (none_grow asked.flow words one) answer v old worked.looked worked.carried.firm new p q worked.carried.settled
        (store_failed worked.carried.settled) at end
        worked.looking worked.carried.settling worked.carried.goes_on
    went_safe words entry answer v old new p q at end (Drove asked apart is drove) =
        driven_safely words asked answer v old new p q at end drove
