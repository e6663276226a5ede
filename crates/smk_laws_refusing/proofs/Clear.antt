-- At a stand at which no fault has come no plan was refused as it came about.
use Rattle.std.proofs.Common.{◌≡◌, false, List, [], ◌∷◌, ◌++◌, refl, sym, ap, subst, ◌∙◌, Option, Some, None}
use Rattle.std.proofs.Common.{Result, Ok, Err, append_assoc, append-nil, true≢false}
use Rattle.smk_world.specs.declared.event.Event.{Event}
use Rattle.smk_world.specs.World.{World, run}
use Rattle.smk_keep.specs.declared.fault.KeepFault.{KeepFault}
use Rattle.smk_keep.specs.declared.fault.KeepFault.TheVariants.{Device, OutOfMemory}
use Rattle.smk_run.specs.Closings.{wait_event}
use Rattle.smk_report.specs.declared.fault.Fault.{Fault}
use Rattle.smk_report.specs.declared.fault.Fault.TheVariants as fault
use Rattle.smk_drive.specs.Moments.{Rules}
use Rattle.smk_drive_course.specs.Stands.{GoesBy, GoesOn, IsClear, IsRefused, LacksMemory, Stand, WasHalted, broken_by_device, first_fault, halted_by}
use Rattle.smk_drive_course.specs.Steps.{Deed, GoesByAnswer}
use Rattle.smk_drive_course.specs.Breaks.{Begins, BeginsNot, BreaksOff, Closes, Done, FailsToWait, Halts, Leaves, ReadsNot, Spends}
use Rattle.smk_drive_course.specs.Breaks.{SpendsNot, Step, Steps, Then, Waits}
use Rattle.smk_laws_moments.specs.Courses.{IsHaltedIfBroken}
use Rattle.smk_laws_moments.proofs.ChildrenOf.{run_more}
use Rattle.smk_laws_moments.proofs.Fates.{broken_is_halted}
use Rattle.smk_laws_refusing.specs.Refusing.{UnhaltedWasClear, WasClear}

some_none : (f : Fault) → Some f ≡ None → ⊥
some_none f h = cc

not_none : (x : Option Fault) (f : Fault) → first_fault x f ≡ None → ⊥
not_none None f h = some_none f h
not_none (Some e) f h = some_none e h

module _ (rules : Rules) (entry : World) where
  halts : (s t : Stand) (g : Fault) → t.halted ≡ first_fault s.halted g → t.halted ≡ None → ⊥
  halts s t g h none = not_none s.halted g (sym h ∙ none)

  halted_now : (s t : Stand) (g : Fault) → t ≡ halted_by g s → t.halted ≡ None → ⊥
  halted_now s t g h none = halts s t g (ap (λ (x : Stand). x.halted) h) none

  broken_now : (s t : Stand) → t ≡ broken_by_device s → t.halted ≡ None → ⊥
  broken_now s t h none = halts s t fault.Device (ap (λ (x : Stand). x.halted) h) none

  goes_clear : (s t : Stand) (w : World) (events : List Event) → GoesBy rules entry s w events t → t.halted ≡ None → IsClear rules t w events
  goes_clear s t w events (GoesOn clear) none = clear
  goes_clear s t w events (IsRefused g unhalted refused) none = absurd (not_none s.halted g none)
  goes_clear s t w events LacksMemory none = absurd (not_none s.halted fault.OutOfMemory none)
  goes_clear s t w events (WasHalted was) none = absurd (was none)

  answer_clear :
      (answer : Result (Unit {0}) KeepFault) (s t : Stand) (w : World) (events : List Event) →
      GoesByAnswer rules entry answer s w events t → t.halted ≡ None → IsClear rules t w events
  answer_clear (Ok u) s t w events h none = goes_clear s t w events h none
  answer_clear (Err OutOfMemory) s t w events h none = absurd (halted_now s t fault.OutOfMemory h none)
  answer_clear (Err Device) s t w events h none = absurd (broken_now s t h none)

  -- after the first events of a step
  at_front :
      (t : Stand) (w : World) (before es front rest : List Event) →
      w ≡ run entry before → es ≡ front ++ rest → IsClear rules t (run w front) (before ++ front) → WasClear rules entry t (before ++ es)
  at_front t w before es front rest at h clear =
      record {
        front = before ++ front;
        rest = rest;
        split = ap (λ x. before ++ x) h ∙ sym (append_assoc before front rest);
        clear = subst (λ v. IsClear rules t v (before ++ front)) (ap (λ v. run v front) at ∙ sym (run_more entry before front)) clear;
      }

  step_clear :
      (s t : Stand) (w : World) (before es : List Event) (deeds : List Deed) →
      Step rules entry s w before es deeds t → w ≡ run entry before → IsHaltedIfBroken s → t.halted ≡ None → WasClear rules entry t (before ++ es)
  step_clear s t w before es deeds (Begins h) at was none =
      at_front t w before es es [] at (sym (append-nil es)) (goes_clear h.next t (run w es) (before ++ es) h.goes_by none)
  step_clear s t w before es deeds (Closes h) at was none =
      at_front t w before es (wait_event h.ended h.left ∷ h.closing) h.tending at h.events (answer_clear h.answer h.next t _ _ h.goes_by none)
  step_clear s t w before es deeds (Spends h) at was none =
      at_front t w before es h.removing h.settling at h.events (goes_clear h.last t _ _ h.goes_by none)
  step_clear s t w before es deeds (Halts h) at was none = absurd (halted_now s t h.why h.leaves none)
  step_clear s t w before es deeds (Leaves h) at was none = absurd (halts s t fault.OutOfMemory (ap (λ (x : Stand). x.halted) h.leaves) none)
  step_clear s t w before es deeds (BreaksOff h) at was none = absurd (halts s t fault.Device (ap (λ (x : Stand). x.halted) h.leaves) none)
  step_clear s t w before es deeds (ReadsNot h) at was none = absurd (broken_now s t h.leaves none)
  step_clear s t w before es deeds (BeginsNot h) at was none = absurd (broken_now s t h.leaves none)
  step_clear s t w before es deeds (SpendsNot h) at was none = absurd (broken_now h.last t h.leaves none)
  step_clear s t w before es deeds (Waits h) at was none = absurd (was h.broken (sym (ap (λ (x : Stand). x.halted) h.leaves) ∙ none))
  step_clear s t w before es deeds (FailsToWait h) at was none = absurd (broken_now s t h.leaves none)

  -- the step keeps that a stand at which a call has failed is halted
  step_broken :
      (s t : Stand) (w : World) (before es : List Event) (deeds : List Deed) →
      Step rules entry s w before es deeds t → IsHaltedIfBroken s → IsHaltedIfBroken t
  step_broken s t w before es deeds step was =
      broken_is_halted rules entry s t w before (es ++ []) (deeds ++ [])
      (Then s t t w before es [] deeds [] step (Done t (run w es) (before ++ es))) was

  all_clear :
      (s t : Stand) (w : World) (before es : List Event) (deeds : List Deed) →
      Steps rules entry s w before es deeds t →
      w ≡ run entry before →
      IsHaltedIfBroken s → (s.halted ≡ None → WasClear rules entry s before) → t.halted ≡ None → WasClear rules entry t (before ++ es)
  all_clear s t w before es deeds (Done s1 w1 before1) at was clear none =
      subst (λ b. WasClear rules entry s1 b) (sym (append-nil before1)) (clear none)
  all_clear s t w before es deeds (Then s1 t1 u1 w1 before1 es1 fs deeds1 more step steps) at was clear none =
      subst (λ b. WasClear rules entry u1 b) (append_assoc before1 es1 fs)
      (all_clear t1 u1 (run w1 es1) (before1 ++ es1) fs more steps (ap (λ v. run v es1) at ∙ sym (run_more entry before1 es1))
      (step_broken s1 t1 w1 before1 es1 deeds1 step was) (step_clear s1 t1 w1 before1 es1 deeds1 step at was) none)

  -- ## The first stand

  goes_broken : (s t : Stand) (w : World) (events : List Event) → GoesBy rules entry s w events t → s.broken ≡ false → IsHaltedIfBroken t
  goes_broken s t w events (GoesOn clear) fine = λ b none. true≢false (sym b ∙ fine)
  goes_broken s t w events (IsRefused g unhalted refused) fine = λ b none. true≢false (sym b ∙ fine)
  goes_broken s t w events LacksMemory fine = λ b none. true≢false (sym b ∙ fine)
  goes_broken s t w events (WasHalted was) fine = λ b none. true≢false (sym b ∙ fine)

  answer_broken :
      (answer : Result (Unit {0}) KeepFault) (s t : Stand) (w : World) (events : List Event) →
      GoesByAnswer rules entry answer s w events t → s.broken ≡ false → IsHaltedIfBroken t
  answer_broken (Ok u) s t w events h fine = goes_broken s t w events h fine
  answer_broken (Err OutOfMemory) s t w events h fine = λ b none. true≢false (sym b ∙ (ap (λ (x : Stand). x.broken) h ∙ fine))
  answer_broken (Err Device) s t w events h fine = λ b none. broken_now s t h none

pub unhalted_was_clear : UnhaltedWasClear
unhalted_was_clear rules entry plan opened opening es start t deeds goes steps none =
    all_clear rules entry start t (run entry opening) opening es deeds steps refl (answer_broken rules entry opened _ start entry [] goes refl)
    (λ unhalted. record { front = []; rest = opening; split = refl; clear = answer_clear rules entry opened _ start entry [] goes unhalted }) none
