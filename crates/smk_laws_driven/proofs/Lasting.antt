-- At the end of a run at which no fault has come, no plan was refused at the last stand as it came about, and since then only mild calls were made.
use Rattle.std.proofs.Common.{◌≡◌, false, List, [], ◌∷◌, ◌++◌, refl, sym, ap, subst, ◌∙◌, Option, Some, None, Result, Ok, Err, true≢false, ◌⊎◌, inl, inr}
use Rattle.smk_world.specs.declared.event.Event.{Event}
use Rattle.smk_world.specs.World.{World, IsFormed, run}
use Rattle.smk_world.specs.Runs.{Follows}
use Rattle.smk_world.specs.Trees.{Act, Path}
use Rattle.smk_world.proofs.Names.{formed_run}
use Rattle.smk_keep.specs.declared.fault.KeepFault.{KeepFault}
use Rattle.smk_keep.specs.declared.fault.KeepFault.TheVariants.{Device, OutOfMemory}
use Rattle.smk_safe.proofs.Done.{follows_split}
use Rattle.smk_run.specs.Closings.{wait_event}
use Rattle.smk_report.specs.declared.fault.Fault.{Fault}
use Rattle.smk_report.specs.declared.fault.Fault.TheVariants as fault
use Rattle.smk_drive.specs.Moments.{IsInForce, Rules}
use Rattle.smk_drive_course.specs.declared.ending.End.{End}
use Rattle.smk_drive_course.specs.Stands.{GoesBy, GoesOn, IsClear, IsRefused, LacksMemory, Stand, WasHalted, broken_by_device, first_fault, first_stand, halted_by}
use Rattle.smk_drive_course.specs.Steps.{Deed, GoesByAnswer, GuardingFails, HasBegun, HasClosed, HasSpent, IsTended, LooksFail, Tended, Unguarded}
use Rattle.smk_drive_course.specs.Breaks.{Begins, BeginsNot, BreaksOff, Closes, Done, FailsToWait, Halts, Leaves, ReadsNot, Spends, SpendsNot, Step, Steps, Then, Waits}
use Rattle.smk_drive_course.specs.Driven.{IsOpening, IsRun, LacksMemory as OpensNot, LoadingFails, LooksFail as LooksNot, Opens, SettlingFails}
use Rattle.smk_laws_moments.specs.Courses.{IsHaltedIfBroken}
use Rattle.smk_laws_moments.proofs.ChildrenOf.{run_more}
use Rattle.smk_laws_moments.proofs.Fates.{broken_is_halted}
use Rattle.smk_laws_driven.proofs.Mild.{AreMild, guards_mild, looks_mild, mild_force, mild_more, settled_mild}

some_none : (f : Fault) → Some f ≡ None → ⊥
some_none f h = cc

not_none : (x : Option Fault) (f : Fault) → first_fault x f ≡ None → ⊥
not_none None f h = some_none f h
not_none (Some e) f h = some_none e h

module _ (act : Act) (rules : Rules) (entry : World) where
  halts : (s t : Stand) (g : Fault) → t.halted ≡ first_fault s.halted g → t.halted ≡ None → ⊥
  halts s t g h none = not_none s.halted g (sym h ∙ none)

  halted_now : (s t : Stand) (g : Fault) → t ≡ halted_by g s → t.halted ≡ None → ⊥
  halted_now s t g h none = halts s t g (ap (λ (x : Stand). x.halted) h) none

  broken_now : (s t : Stand) → t ≡ broken_by_device s → t.halted ≡ None → ⊥
  broken_now s t h none = halts s t fault.Device (ap (λ (x : Stand). x.halted) h) none

  goes_clear : (s t : Stand) (w : World) (events : List Event) → GoesBy rules entry s w events t → t.halted ≡ None → IsClear rules t w events
  goes_clear s t w events (GoesOn clear) none = clear
  goes_clear s t w events (IsRefused g unhalted refused) none = absurd (not_none s.halted g none)
  goes_clear s t w events LacksMemory none = absurd (not_none s.halted fault.OutOfMemory none)
  goes_clear s t w events (WasHalted was) none = absurd (was none)

  pub answer_clear :
      (answer : Result (Unit {0}) KeepFault) (s t : Stand) (w : World) (events : List Event) →
      GoesByAnswer rules entry answer s w events t → t.halted ≡ None → IsClear rules t w events
  answer_clear (Ok u) s t w events h none = goes_clear s t w events h none
  answer_clear (Err OutOfMemory) s t w events h none = absurd (halted_now s t fault.OutOfMemory h none)
  answer_clear (Err Device) s t w events h none = absurd (broken_now s t h none)

  -- No plan of the stand was refused as it came about, and since then only mild calls led to this world.
  pub record WasClear (t : Stand) (v : World) : Type 0 where
    pub there : World
    pub events : List Event
    pub since : List Event
    pub is : v ≡ run there since
    pub formed : IsFormed there
    pub follows : Follows act there since
    pub mild : AreMild since
    pub clear : IsClear rules t there events

  -- so its plan is in force
  pub clear_force : (t : Stand) (v : World) → WasClear t v → IsInForce rules v t.begun t.from t.plan
  clear_force t v was =
      subst (λ x. IsInForce rules x t.begun t.from t.plan) (sym was.is)
      (mild_force act rules t.begun t.from t.plan was.there was.since was.formed was.mild was.follows was.clear.planned)

  -- right as it came about
  at_once : (t : Stand) (w v : World) (events : List Event) → v ≡ w → IsFormed w → IsClear rules t w events → WasClear t v
  at_once t w v events same formed clear =
      record { there = w; events = events; since = []; is = same; formed = formed; follows = tt; mild = tt; clear = clear }

  -- after the first events of a step
  in_front :
      (t : Stand) (w : World) (before es front rest : List Event) → IsFormed w → Follows act w es → es ≡ front ++ rest → AreMild rest →
      IsClear rules t (run w front) before → WasClear t (run w es)
  in_front t w before es front rest formed follows split mild clear =
      record {
        there = run w front;
        events = before;
        since = rest;
        is = ap (run w) split ∙ run_more w front rest;
        formed = formed_run w front formed;
        follows = (follows_split act w front rest (subst (Follows act w) split follows)).1;
        mild = mild;
        clear = clear;
      }

  tended_mild :
      (guards : List Path) (answer : Result (Unit {0}) KeepFault) (tending : List Event) (s t : Stand) (w : World) (events : List Event) →
      IsTended guards answer tending → GoesByAnswer rules entry answer s w events t → t.halted ≡ None → AreMild tending
  tended_mild guards answer tending s t w events (Tended guarding looks guarded looked) goes none =
      mild_more guarding looks (guards_mild guards guarding guarded) (looks_mild false looks looked)
  tended_mild guards answer tending s t w events Unguarded goes none = absurd (halted_now s t fault.OutOfMemory goes none)
  tended_mild guards answer tending s t w events (GuardingFails guarding cut) goes none = absurd (broken_now s t goes none)
  tended_mild guards answer tending s t w events (LooksFail guarding looks guarded looked) goes none = absurd (broken_now s t goes none)

  pub step_clear :
      (s t : Stand) (w : World) (before es : List Event) (deeds : List Deed) → Step rules entry s w before es deeds t → IsFormed w → Follows act w es →
      IsHaltedIfBroken s → t.halted ≡ None → WasClear t (run w es)
  step_clear s t w before es deeds (Begins h) formed follows was none =
      at_once t (run w es) (run w es) (before ++ es) refl (formed_run w es formed) (goes_clear h.next t (run w es) (before ++ es) h.goes_by none)
  step_clear s t w before es deeds (Closes h) formed follows was none =
      in_front t w (before ++ wait_event h.ended h.left ∷ h.closing) es (wait_event h.ended h.left ∷ h.closing) h.tending formed follows h.events
      (tended_mild _ h.answer h.tending h.next t (run w (wait_event h.ended h.left ∷ h.closing)) (before ++ wait_event h.ended h.left ∷ h.closing) h.tended
      h.goes_by none)
      (answer_clear h.answer h.next t _ _ h.goes_by none)
  step_clear s t w before es deeds (Spends h) formed follows was none =
      in_front t w (before ++ h.removing) es h.removing h.settling formed follows h.events (settled_mild h.paths h.settling h.settled)
      (goes_clear h.last t _ _ h.goes_by none)
  step_clear s t w before es deeds (Halts h) formed follows was none = absurd (halted_now s t h.why h.leaves none)
  step_clear s t w before es deeds (Leaves h) formed follows was none =
      absurd (halts s t fault.OutOfMemory (ap (λ (x : Stand). x.halted) h.leaves) none)
  step_clear s t w before es deeds (BreaksOff h) formed follows was none = absurd (halts s t fault.Device (ap (λ (x : Stand). x.halted) h.leaves) none)
  step_clear s t w before es deeds (ReadsNot h) formed follows was none = absurd (broken_now s t h.leaves none)
  step_clear s t w before es deeds (BeginsNot h) formed follows was none = absurd (broken_now s t h.leaves none)
  step_clear s t w before es deeds (SpendsNot h) formed follows was none = absurd (broken_now h.last t h.leaves none)
  step_clear s t w before es deeds (Waits h) formed follows was none = absurd (was h.broken (sym (ap (λ (x : Stand). x.halted) h.leaves) ∙ none))
  step_clear s t w before es deeds (FailsToWait h) formed follows was none = absurd (broken_now s t h.leaves none)

  -- without a fault a job begins in a step, is closed, or outputs are removed
  pub unhalted_step :
      (s t : Stand) (w : World) (before es : List Event) (deeds : List Deed) → Step rules entry s w before es deeds t → IsHaltedIfBroken s → t.halted ≡ None →
      HasBegun rules entry s w before es deeds t ⊎ (HasClosed rules entry s w before es deeds t ⊎ HasSpent rules entry s w before es deeds t)
  unhalted_step s t w before es deeds (Begins h) was none = inl h
  unhalted_step s t w before es deeds (Closes h) was none = inr (inl h)
  unhalted_step s t w before es deeds (Spends h) was none = inr (inr h)
  unhalted_step s t w before es deeds (Halts h) was none = absurd (halted_now s t h.why h.leaves none)
  unhalted_step s t w before es deeds (Leaves h) was none = absurd (halts s t fault.OutOfMemory (ap (λ (x : Stand). x.halted) h.leaves) none)
  unhalted_step s t w before es deeds (BreaksOff h) was none = absurd (halts s t fault.Device (ap (λ (x : Stand). x.halted) h.leaves) none)
  unhalted_step s t w before es deeds (ReadsNot h) was none = absurd (broken_now s t h.leaves none)
  unhalted_step s t w before es deeds (BeginsNot h) was none = absurd (broken_now s t h.leaves none)
  unhalted_step s t w before es deeds (SpendsNot h) was none = absurd (broken_now h.last t h.leaves none)
  unhalted_step s t w before es deeds (Waits h) was none = absurd (was h.broken (sym (ap (λ (x : Stand). x.halted) h.leaves) ∙ none))
  unhalted_step s t w before es deeds (FailsToWait h) was none = absurd (broken_now s t h.leaves none)

  -- the step keeps that a stand at which a call has failed is halted
  pub step_broken :
      (s t : Stand) (w : World) (before es : List Event) (deeds : List Deed) →
      Step rules entry s w before es deeds t → IsHaltedIfBroken s → IsHaltedIfBroken t
  step_broken s t w before es deeds step was =
      broken_is_halted rules entry s t w before (es ++ []) (deeds ++ [])
      (Then s t t w before es [] deeds [] step (Done t (run w es) (before ++ es))) was

  all_clear :
      (s t : Stand) (w : World) (before es : List Event) (deeds : List Deed) → Steps rules entry s w before es deeds t → IsFormed w → Follows act w es →
      IsHaltedIfBroken s → (s.halted ≡ None → WasClear s w) → t.halted ≡ None → WasClear t (run w es)
  all_clear s t w before es deeds (Done s1 w1 before1) formed follows was clear none = clear none
  all_clear s t w before es deeds (Then s1 t1 u1 w1 before1 es1 fs deeds1 more step steps) formed follows was clear none =
      let both = follows_split act w1 es1 fs follows in
      subst (WasClear u1) (sym (run_more w1 es1 fs))
      (all_clear t1 u1 (run w1 es1) (before1 ++ es1) fs more steps (formed_run w1 es1 formed) both.1
      (step_broken s1 t1 w1 before1 es1 deeds1 step was) (step_clear s1 t1 w1 before1 es1 deeds1 step formed both.0 was) none)

  -- ## The first stand

  goes_broken : (s t : Stand) (w : World) (events : List Event) → GoesBy rules entry s w events t → s.broken ≡ false → IsHaltedIfBroken t
  goes_broken s t w events (GoesOn clear) fine = λ b none. true≢false (sym b ∙ fine)
  goes_broken s t w events (IsRefused g unhalted refused) fine = λ b none. true≢false (sym b ∙ fine)
  goes_broken s t w events LacksMemory fine = λ b none. true≢false (sym b ∙ fine)
  goes_broken s t w events (WasHalted was) fine = λ b none. true≢false (sym b ∙ fine)

  pub answer_broken :
      (answer : Result (Unit {0}) KeepFault) (s t : Stand) (w : World) (events : List Event) →
      GoesByAnswer rules entry answer s w events t → s.broken ≡ false → IsHaltedIfBroken t
  answer_broken (Ok u) s t w events h fine = goes_broken s t w events h fine
  answer_broken (Err OutOfMemory) s t w events h fine = λ b none. true≢false (sym b ∙ (ap (λ (x : Stand). x.broken) h ∙ fine))
  answer_broken (Err Device) s t w events h fine = λ b none. broken_now s t h none

  opening_mild :
      (opened : Result (Unit {0}) KeepFault) (es : List Event) (s t : Stand) (events : List Event) → IsOpening rules entry opened es →
      GoesByAnswer rules entry opened s entry events t → t.halted ≡ None → AreMild es
  opening_mild opened es s t events (Opens loading settling looks places loaded signs settled looked) goes none =
      mild_more loading (settling ++ looks) (looks_mild false loading loaded)
      (mild_more settling looks (settled_mild places settling settled) (looks_mild false looks looked))
  opening_mild opened es s t events (OpensNot loading loaded) goes none = absurd (halted_now s t fault.OutOfMemory goes none)
  opening_mild opened es s t events (LoadingFails loading loaded) goes none = absurd (broken_now s t goes none)
  opening_mild opened es s t events (SettlingFails loading settling places loaded signs cut) goes none = absurd (broken_now s t goes none)
  opening_mild opened es s t events (LooksNot loading settling looks places loaded signs settled looked) goes none = absurd (broken_now s t goes none)

  -- So it is where a run starts, if no fault has come,
  pub start_clear :
      (told : Option End) (result : Result End Fault) (deeds : List Deed) (log : List Event) (r : IsRun rules told result deeds entry log) → IsFormed entry →
      Follows act entry r.opening → r.start.halted ≡ None → WasClear r.start (run entry r.opening)
  start_clear told result deeds log r formed follows unhalted =
      record {
        there = entry;
        events = [];
        since = r.opening;
        is = refl;
        formed = formed;
        follows = follows;
        mild = opening_mild r.opened r.opening (first_stand r.plan) r.start [] r.opens r.goes_by unhalted;
        clear = answer_clear r.opened (first_stand r.plan) r.start entry [] r.goes_by unhalted;
      }

  -- and at the end of one at which none has come.
  pub run_clear :
      (told : Option End) (result : Result End Fault) (deeds : List Deed) (log : List Event) (r : IsRun rules told result deeds entry log) → IsFormed entry →
      Follows act entry log → r.last.halted ≡ None → WasClear r.last (run entry log)
  run_clear told result deeds log r formed follows none =
      let both = follows_split act entry r.opening r.rest (subst (Follows act entry) r.events follows) in
      subst (WasClear r.last) (sym (ap (run entry) r.events ∙ run_more entry r.opening r.rest))
      (all_clear r.start r.last (run entry r.opening) r.opening r.rest deeds r.steps (formed_run entry r.opening formed) both.1
      (answer_broken r.opened (first_stand r.plan) r.start entry [] r.goes_by refl) (start_clear told result deeds log r formed both.0) none)
