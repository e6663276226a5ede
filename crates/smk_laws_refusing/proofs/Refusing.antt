-- A run that ends with a refusal has met it, and one in which a fault has come ends with the first one.
use Rattle.std.proofs.Common.{◌≡◌, ◌⊎◌, false, not, ◌||◌, List, [], ◌∷◌, ◌++◌, refl, sym, ap, subst, ◌∙◌, inl, inr}
use Rattle.std.proofs.Common.{Option, Some, None, Result, Ok, Err, append_assoc, append-nil, true≢false}
use Rattle.std.specs.Prelude.{IsTrue}
use Rattle.smk_world.specs.declared.event.Event.{Event}
use Rattle.smk_world.specs.World.{World, run}
use Rattle.smk_world.specs.Trees.{Path}
use Rattle.smk_keep.specs.declared.fault.KeepFault.{KeepFault}
use Rattle.smk_keep.specs.declared.fault.KeepFault.TheVariants.{Device, OutOfMemory}
use Rattle.smk_run.specs.Closings.{wait_event}
use Rattle.smk_report.specs.declared.fault.Fault.{Fault}
use Rattle.smk_report.specs.declared.fault.Fault.TheVariants as fault
use Rattle.smk_drive.specs.Moments.{Rules, progress_of, seen}
use Rattle.smk_drive.specs.Refusals.{ChainRefuses}
use Rattle.smk_drive_course.specs.Refusals.{RunRefuses}
use Rattle.smk_drive_course.specs.declared.ending.End.{End}
use Rattle.smk_drive_course.specs.Stands.{AtRest, Between, GoesBy, GoesOn, IsRefused, LacksMemory, WasHalted, IsReplanned, Refuses, Stand}
use Rattle.smk_drive_course.specs.Stands.{broken_by_device, first_fault, first_stand, halted_by}
use Rattle.smk_drive_course.specs.Steps.{AreRemoved, Deed, GoesByAnswer, NoMore, OneMore}
use Rattle.smk_drive_course.specs.Breaks.{Begins, BeginsNot, BreaksOff, Closes, Done, FailsToWait, Halts, Leaves, ReadsNot, Spends}
use Rattle.smk_drive_course.specs.Breaks.{SpendsNot, Step, Steps, Then, Waits}
use Rattle.smk_drive_course.specs.Driven.{IsAnswer, IsRun}
use Rattle.smk_drive_course.specs.Reports.{is_device, may_lose}
use Rattle.smk_laws_moments.proofs.ChildrenOf.{run_more}
use Rattle.smk_laws_moments.proofs.Fates.{first_fault_stays}
use Rattle.smk_laws_moments.proofs.StandsOf.{refused_at_entry}
use Rattle.smk_laws_refusing.specs.Refusing.{FirstFaultEnds, InStep, AtEntry as AtEntryOf, IsRefusalOf, OneRefuses, StepRefuses, is_refusal}
use Rattle.smk_laws_refusing.specs.Refusing.{RefusalIsMet, RefusedAtEntryEnds}

-- ## Faults

none_some : (f : Fault) → None ≡ Some f → ⊥
none_some f h = cc

same_fault : (f g : Fault) → Some f ≡ Some g → f ≡ g
same_fault f g h = cc

-- the fault that came to a stand that had none
first_is : (x : Option Fault) (g f : Fault) → x ≡ None → first_fault x g ≡ Some f → g ≡ f
first_is None g f none h = same_fault g f h
first_is (Some e) g f none h = absurd (none_some e (sym none))

-- a fault that is no refusal isn't this one
is_other : (g f : Fault) → is_refusal g ≡ false → IsTrue (is_refusal f) → g ≡ f → ⊥
is_other g f other is same = true≢false (sym is ∙ (ap is_refusal (sym same) ∙ other))

-- ## One step

module _ (rules : Rules) (entry : World) (f : Fault) (is : IsTrue (is_refusal f)) where
  not_by : {T : Type 0} (s t : Stand) (g : Fault) → is_refusal g ≡ false → s.halted ≡ None → t.halted ≡ Some f → t.halted ≡ first_fault s.halted g → T
  not_by s t g other none came h = absurd (is_other g f other is (first_is s.halted g f none (sym h ∙ came)))

  not_halted : {T : Type 0} (s t : Stand) (g : Fault) → is_refusal g ≡ false → s.halted ≡ None → t.halted ≡ Some f → t ≡ halted_by g s → T
  not_halted s t g other none came h = not_by s t g other none came (ap (λ (x : Stand). x.halted) h)

  not_broken : {T : Type 0} (s t : Stand) → s.halted ≡ None → t.halted ≡ Some f → t ≡ broken_by_device s → T
  not_broken s t none came h = not_by s t fault.Device refl none came (ap (λ (x : Stand). x.halted) h)

  -- a stand that came about is refused so
  abbrev IsLeft : Stand → World → List Event → Stand → Type 0
  IsLeft s w events t = Refuses rules entry s w events f × (t ≡ halted_by f s)

  goes_refused : (s t : Stand) (w : World) (events : List Event) → GoesBy rules entry s w events t → s.halted ≡ None → t.halted ≡ Some f → IsLeft s w events t
  goes_refused s t w events (GoesOn clear) none came = absurd (none_some f (sym none ∙ came))
  goes_refused s t w events (IsRefused g unhalted refused) none came =
      let same = first_is s.halted g f none came in
      (subst (λ x. Refuses rules entry s w events x) same refused, ap (λ x. halted_by x s) same)
  goes_refused s t w events LacksMemory none came = absurd (is_other fault.OutOfMemory f refl is (first_is s.halted fault.OutOfMemory f none came))
  goes_refused s t w events (WasHalted was) none came = absurd (none_some f (sym none ∙ came))

  answer_refused :
      (answer : Result (Unit {0}) KeepFault) (s t : Stand) (w : World) (events : List Event) →
      GoesByAnswer rules entry answer s w events t → s.halted ≡ None → t.halted ≡ Some f → IsLeft s w events t
  answer_refused (Ok u) s t w events h none came = goes_refused s t w events h none came
  answer_refused (Err OutOfMemory) s t w events h none came = not_halted s t fault.OutOfMemory refl none came h
  answer_refused (Err Device) s t w events h none came = not_broken s t none came h

  replanned_halted : (s t : Stand) (w : World) → IsReplanned rules s w t → t.halted ≡ s.halted
  replanned_halted s t w (AtRest plan rest force) = refl
  replanned_halted s t w (Between rest) = refl

  removed_halted :
      (s t : Stand) (w : World) (before : List Event) (paths : List Path) (es : List Event) →
      AreRemoved rules s w before paths es t → t.halted ≡ s.halted
  removed_halted s t w before paths es (NoMore s1 w1 before1) = refl
  removed_halted s t w before paths es (OneMore s1 t1 u1 w1 before1 p ps e es1 clear spent listed done plans rest) =
      removed_halted t1 u1 _ _ ps es1 rest ∙ replanned_halted s1 t1 _ plans

  -- where the job that is next was refused
  halts_refused :
      (s t : Stand) (w : World) (before es : List Event) (why : Fault) →
      ((s.halted ≡ None) × Refuses rules entry s w before why) ⊎ ((why ≡ fault.Output) ⊎ (why ≡ fault.OutOfMemory)) →
      s.halted ≡ None → t.halted ≡ Some f → t ≡ halted_by why s → StepRefuses rules entry w before es t f
  halts_refused s t w before es why (inl (unhalted, refused)) none came leaves =
      let same = first_is s.halted why f none (sym (ap (λ (x : Stand). x.halted) leaves) ∙ came) in
      record {
        stand = s;
        front = [];
        rest = es;
        split = refl;
        unhalted = none;
        refuses = subst (λ b. Refuses rules entry s w b f) (sym (append-nil before)) (subst (λ x. Refuses rules entry s w before x) same refused);
        leaves = leaves ∙ ap (λ x. halted_by x s) same;
      }
  halts_refused s t w before es why (inr (inl output)) none came leaves =
      not_halted s t fault.Output refl none came (leaves ∙ ap (λ x. halted_by x s) output)
  halts_refused s t w before es why (inr (inr memory)) none came leaves =
      not_halted s t fault.OutOfMemory refl none came (leaves ∙ ap (λ x. halted_by x s) memory)

  step_refuses :
      (s t : Stand) (w : World) (before es : List Event) (deeds : List Deed) →
      Step rules entry s w before es deeds t → s.halted ≡ None → t.halted ≡ Some f → StepRefuses rules entry w before es t f
  step_refuses s t w before es deeds (Begins h) none came =
      let unhalted = replanned_halted _ h.next (run w es) h.replanned ∙ none in
      let left = goes_refused h.next t (run w es) (before ++ es) h.goes_by unhalted came in
      record { stand = h.next; front = es; rest = []; split = sym (append-nil es); unhalted = unhalted; refuses = left.0; leaves = left.1 }
  step_refuses s t w before es deeds (Closes h) none came =
      let unhalted = replanned_halted _ h.next _ h.replanned ∙ none in
      let left = answer_refused h.answer h.next t _ _ h.goes_by unhalted came in
      record {
        stand = h.next;
        front = wait_event h.ended h.left ∷ h.closing;
        rest = h.tending;
        split = h.events;
        unhalted = unhalted;
        refuses = left.0;
        leaves = left.1;
      }
  step_refuses s t w before es deeds (Spends h) none came =
      let unhalted = removed_halted s h.last w before h.paths h.removing h.removed ∙ none in
      let left = goes_refused h.last t _ _ h.goes_by unhalted came in
      record { stand = h.last; front = h.removing; rest = h.settling; split = h.events; unhalted = unhalted; refuses = left.0; leaves = left.1 }
  step_refuses s t w before es deeds (Halts h) none came = halts_refused s t w before es h.why h.cause none came h.leaves
  step_refuses s t w before es deeds (Leaves h) none came = not_by s t fault.OutOfMemory refl none came (ap (λ (x : Stand). x.halted) h.leaves)
  step_refuses s t w before es deeds (BreaksOff h) none came = not_by s t fault.Device refl none came (ap (λ (x : Stand). x.halted) h.leaves)
  step_refuses s t w before es deeds (ReadsNot h) none came = not_broken s t none came h.leaves
  step_refuses s t w before es deeds (BeginsNot h) none came = not_broken s t none came h.leaves
  step_refuses s t w before es deeds (SpendsNot h) none came =
      not_broken h.last t (removed_halted s h.last w before h.paths h.removing h.removed ∙ none) came h.leaves
  step_refuses s t w before es deeds (Waits h) none came = absurd (none_some f (sym none ∙ (sym (ap (λ (x : Stand). x.halted) h.leaves) ∙ came)))
  step_refuses s t w before es deeds (FailsToWait h) none came = not_broken s t none came h.leaves

  -- ## All steps

  -- the step, and what is refused in it
  abbrev StepAnd : (s t : Stand) (es : List Event) (deeds : List Deed) (v : World) (b : List Event) → Type 0
  StepAnd s t es deeds v b = Step rules entry s v b es deeds t × StepRefuses rules entry v b es t f

  -- after a step in which none was refused
  one_later :
      (s t : Stand) (w : World) (before es fs : List Event) (deeds : List Deed) →
      Step rules entry s w before es deeds t → OneRefuses rules entry t (run w es) (before ++ es) fs f → OneRefuses rules entry s w before (es ++ fs) f
  one_later s t w before es fs deeds step x =
      let moved =
      subst (λ v. StepAnd x.from x.to x.events x.told v (before ++ (es ++ x.front))) (sym (run_more w es x.front))
      (subst (λ b. StepAnd x.from x.to x.events x.told (run (run w es) x.front) b) (append_assoc before es x.front) (x.step, x.refuses)) in
      record {
        from = x.from;
        to = x.to;
        front = es ++ x.front;
        events = x.events;
        rest = x.rest;
        deeds = deeds ++ x.deeds;
        told = x.told;
        split = ap (λ gs. es ++ gs) x.split ∙ sym (append_assoc es x.front (x.events ++ x.rest));
        steps = Then s t x.from w before es x.front deeds x.deeds step x.steps;
        step = moved.0;
        refuses = moved.1;
      }

  one_now :
      (s t : Stand) (w : World) (before es fs : List Event) (deeds : List Deed) →
      Step rules entry s w before es deeds t → StepRefuses rules entry w before es t f → OneRefuses rules entry s w before (es ++ fs) f
  one_now s t w before es fs deeds step refuses =
      let moved = subst (λ b. StepAnd s t es deeds w b) (sym (append-nil before)) (step, refuses) in
      record {
        from = s;
        to = t;
        front = [];
        events = es;
        rest = fs;
        deeds = [];
        told = deeds;
        split = refl;
        steps = Done s w before;
        step = moved.0;
        refuses = moved.1;
      }

  -- by whether a fault came in the first step
  one_of :
      (s t u : Stand) (w : World) (before es fs : List Event) (deeds more : List Deed) →
      Step rules entry s w before es deeds t →
      Steps rules entry t (run w es) (before ++ es) fs more u →
      s.halted ≡ None →
      u.halted ≡ Some f →
      (x : Option Fault) →
      t.halted ≡ x → (t.halted ≡ None → OneRefuses rules entry t (run w es) (before ++ es) fs f) → OneRefuses rules entry s w before (es ++ fs) f
  one_of s t u w before es fs deeds more step steps none came None still later = one_later s t w before es fs deeds step (later still)
  one_of s t u w before es fs deeds more step steps none came (Some g) here later =
      let last = (first_fault_stays rules entry t u (run w es) (before ++ es) fs more steps g here).0 in
      let same = same_fault g f (sym last ∙ came) in
      one_now s t w before es fs deeds step (step_refuses s t w before es deeds step none (here ∙ ap (λ (y : Fault). Some y) same))

  one_refuses :
      (s t : Stand) (w : World) (before es : List Event) (deeds : List Deed) →
      Steps rules entry s w before es deeds t → s.halted ≡ None → t.halted ≡ Some f → OneRefuses rules entry s w before es f
  one_refuses s t w before es deeds (Done s1 w1 before1) none came = absurd (none_some f (sym none ∙ came))
  one_refuses s t w before es deeds (Then s1 t1 u1 w1 before1 es1 fs deeds1 more step steps) none came =
      one_of s1 t1 u1 w1 before1 es1 fs deeds1 more step steps none came t1.halted refl
      (λ still. one_refuses t1 u1 (run w1 es1) (before1 ++ es1) fs more steps still came)

-- ## What a run answers

not_lost : (f : Fault) → IsTrue (may_lose f) → IsTrue (is_refusal f) → ⊥
not_lost f lost is = true≢false (sym is ∙ ap (λ b. not (b || is_device f)) lost)

module _ (rules : Rules) (v : World) (log : List Event) (all : List Deed) (t : Stand) (f : Fault) where
  -- where a fault has come, that
  answers_fault : (told : Option End) (result : Result End Fault) → IsAnswer rules v log all t told result → t.halted ≡ Some f → result ≡ Err f
  answers_fault told (Ok end) (same, well) came = absurd (none_some f (sym well.unhalted ∙ came))
  answers_fault None (Err g) (inl halted) came = ap (λ x. Err x) (same_fault g f (sym halted ∙ came))
  answers_fault None (Err g) (inr (none, lost)) came = absurd (none_some f (sym none ∙ came))
  answers_fault (Some end) (Err g) (lost, well) came = absurd (none_some f (sym well.unhalted ∙ came))

  -- a refusal only where it has come
  refusal_came : (told : Option End) → IsAnswer rules v log all t told (Err f) → IsTrue (is_refusal f) → t.halted ≡ Some f
  refusal_came None (inl halted) is = halted
  refusal_came None (inr (none, lost)) is = absurd (not_lost f lost is)
  refusal_came (Some end) (lost, well) is = absurd (not_lost f lost is)

pub first_fault_ends : FirstFaultEnds
first_fault_ends rules entry s t w v before es log deeds all told result f steps was answer =
    answers_fault rules v log all t f told result answer (first_fault_stays rules entry s t w before es deeds steps f was).0

-- ## Runs

module _ (rules : Rules) (told : Option End) (deeds : List Deed) (entry : World) (log : List Event) where
  pub refusal_is_met : (f : Fault) → IsRun rules told (Err f) deeds entry log → IsTrue (is_refusal f) → IsRefusalOf rules entry log f
  refusal_is_met f r is = go r.start.halted refl
    where
      came : r.last.halted ≡ Some f
      came = refusal_came rules (run entry log) log deeds r.last f told r.answer is

      go : (x : Option Fault) → r.start.halted ≡ x → IsRefusalOf rules entry log f
      go None none =
          InStep r.plan r.opened r.opening r.rest r.start r.events r.planned r.goes_by none
          (one_refuses rules entry f is r.start r.last (run entry r.opening) r.opening r.rest deeds r.steps none came)
      go (Some g) here =
          let last = (first_fault_stays rules entry r.start r.last (run entry r.opening) r.opening r.rest deeds r.steps g here).0 in
          let same = same_fault g f (sym last ∙ came) in
          let left =
          answer_refused rules entry f is r.opened (first_stand r.plan) r.start entry [] r.goes_by refl (here ∙ ap (λ (y : Fault). Some y) same) in
          AtEntryOf (refused_at_entry rules entry r.plan log f r.planned left.0)

  -- it ends with the refusal of its log, or with a fault that is none
  abbrev EndsSo : Result End Fault → Type 0
  EndsSo result = (g : Fault) × (result ≡ Err g) × ((is_refusal g ≡ false) ⊎ RunRefuses rules entry log g)

  -- the first stand of a run whose first plans are refused
  pub refused_ends :
      (result : Result End Fault) (f : Fault) →
      IsRun rules told result deeds entry log →
      ChainRefuses rules (seen rules entry) (progress_of entry []) [] f →
      EndsSo result
  refused_ends result f r refused = go r.opened r.goes_by
    where
      ends : (g : Fault) → r.start.halted ≡ Some g → result ≡ Err g
      ends g here =
          answers_fault rules (run entry log) log deeds r.last g told result r.answer
          (first_fault_stays rules entry r.start r.last (run entry r.opening) r.opening r.rest deeds r.steps g here).0

      by : (s : Stand) → s ≡ r.start → GoesBy rules entry (first_stand r.plan) entry [] s → EndsSo result
      by s same (GoesOn clear) = absurd (clear.unrefused f refused)
      by s same (IsRefused g unhalted refuses) =
          (g, ends g (sym (ap (λ (x : Stand). x.halted) same)), inr (refused_at_entry rules entry r.plan log g r.planned refuses))
      by s same LacksMemory = (fault.OutOfMemory, ends fault.OutOfMemory (sym (ap (λ (x : Stand). x.halted) same)), inl refl)
      by s same (WasHalted was) = absurd (was refl)

      go : (answer : Result (Unit {0}) KeepFault) → GoesByAnswer rules entry answer (first_stand r.plan) entry [] r.start → EndsSo result
      go (Ok u) goes = by r.start refl goes
      go (Err OutOfMemory) h = (fault.OutOfMemory, ends fault.OutOfMemory (ap (λ (x : Stand). x.halted) h), inl refl)
      go (Err Device) h = (fault.Device, ends fault.Device (ap (λ (x : Stand). x.halted) h), inl refl)

pub met : RefusalIsMet
met rules told deeds entry log f r is = refusal_is_met rules told deeds entry log f r is

pub refused_at_entry_ends : RefusedAtEntryEnds
refused_at_entry_ends rules told result deeds entry log f r refused = refused_ends rules told deeds entry log result f r refused
