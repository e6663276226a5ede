-- One round of a sweep: its calls.
use Rattle.std.proofs.Common.{◌≡◌, ◌≢◌, true, false, List, [], ◌∷◌, ◌++◌, refl, sym, ap, subst, ◌∙◌, Some, None, Result, Ok, Err, append-nil}
use Rattle.std.specs.Prelude.{IfErr, OnErr, OnOk}
use Rattle.smk_world.specs.declared.event.Call.{Call}
use Rattle.smk_world.specs.declared.event.Call.TheVariants.{Removed as RemovedCall}
use Rattle.smk_world.specs.declared.event.Event.{Event}
use Rattle.smk_world.specs.declared.event.Failed.{Failed}
use Rattle.smk_world.specs.Calls.{IsUnused, failed}
use Rattle.smk_world.specs.Devices.{Device, HasActed, HasCalled, WhereTold, keeps_children}
use Rattle.smk_world.specs.Requests.{request}
use Rattle.smk_world.specs.Runs.{Follows}
use Rattle.smk_world.specs.Trees.{Act, Path}
use Rattle.smk_world.specs.World.{World}
use Rattle.smk_world.proofs.Devices.{acted_nothing, still_children, still_running}
use Rattle.smk_flow.specs.Flows.{Flow}
use Rattle.smk_pick.specs.declared.settings.Settings.{Settings}
use Rattle.smk_plan.specs.declared.fault.PlanFault.{PlanFault}
use Rattle.smk_plan.specs.declared.fault.PlanFault.TheVariants as refused
use Rattle.smk_plan_live.specs.declared.base.Base.{Base}
use Rattle.smk_plan_live.specs.Live.{LivePlan}
use Rattle.smk_plan_live.specs.Carried.{spent}
use Rattle.smk_plan_live.specs.Changes.{HasSpent}
use Rattle.smk_plan_live.specs.Lives.{IsLive, IsRefusedNow}
use Rattle.smk_report.specs.declared.fault.Fault.{Fault}
use Rattle.smk_report.specs.declared.fault.Fault.TheVariants as fault
use Rattle.smk_run.specs.Statuses.{HasGiven}
use Rattle.smk_drive.specs.Moments.{Rules}
use Rattle.smk_drive_step.specs.Crews.{is_device}
use Rattle.smk_drive_course.specs.Stands.{Stand}
use Rattle.smk_drive_course.specs.Steps.{Deed}
use Rattle.smk_drive_first.specs.Opening.{AreRules}
use Rattle.smk_laws_turns.specs.Hubs.{IsAt, Parts}
use Rattle.smk_laws_turns.specs.Resting.{IsAnswerOf, IsTold}
use Rattle.smk_laws_begins.specs.Sweeping.{IsFirstSpent, IsSwept, with_live}
use Rattle.smk_laws_begins.proofs.Onward.{sweep_begins, sweep_breaks, sweep_goes_on, sweep_lacks, sweep_may_go_on}
use Rattle.smk_laws_begins.proofs.Spending.{jobs_spent}
use Rattle.smk_drive_hub.specs.Turned.{Somewhere}
use Rattle.smk_drive_begin.specs.declared.rounds.Round.{Round}
use Rattle.smk_drive_begin.specs.declared.rounds.Round.TheVariants.{Removed, Done, Halted, Broken}
use Rattle.smk_drive_begin.specs.Rounds.{HasRound, IsQuiet, IsToldRound, SweepsOn, is_broken, round_of}
use Rattle.smk_drive_begin.proofs.Joining.{swept_nothing}

-- ## One call

-- a removal tells no status
removal_given : (act : Act) (a b : Device) (p : Path) (r : Result (Unit {0}) Failed) → HasCalled act a b (RemovedCall p r) → HasGiven act a b
removal_given act a b p r h = λ w1 e.
    let t = h.world.told w1 e in (t.0, t.1, (record { call = RemovedCall p r; left = t.2.0 } ∷ [], (t.2.1, tt), (tt, tt), t.2.2))

-- one call, with the event that it made
acted_one :
    (act : Act) (P : World → List Event → Type 0) (a b : Device) (call : Call) → keeps_children call ≡ true →
    ((w : World) (e : Event) → e.call ≡ call → Follows act w (e ∷ []) → P w (e ∷ [])) → HasCalled act a b call → HasActed act P a b (failed call)
acted_one act P a b call same more h =
    record {
      did = λ w1 e.
          let t = h.world.told w1 e in
          (t.0, t.1, (record { call = call; left = t.2.0 } ∷ [], (t.2.1, tt), more t.0 (record { call = call; left = t.2.0 }) refl (t.2.1, tt), t.2.2));
      stays = λ quiet some. h.world.stays some quiet;
      cause = h.cause;
      running = h.running ∙ still_running call a.running same;
      children = λ w1 e. let t = h.world.told w1 e in (t.0, t.1, ap (λ (w : World). w.children) t.2.2 ∙ still_children call t.0.children same);
    }

-- ## Before the call

-- the first one that is spent may be removed
pub may_remove :
    (flow : Flow) (settings : Settings) (h : Parts) (d : Device) (p : Path) → WhereTold d (λ w. Somewhere flow settings h w) → h.halt.fault ≡ None →
    IsFirstSpent h.live (Some p) → WhereTold d (λ w. IsUnused w p)
may_remove flow settings h d p somewhere unhalted found = λ w told.
    let o = somewhere w told in
    let none : o.stand.halted ≡ None = sym o.at.halted ∙ unhalted in
    sweep_may_go_on o.rules o.entry h o.stand w o.before o.deeds h.live [] [] p (sweep_begins o.rules o.entry h o.stand w o.before o.deeds o.at none) found

module _ (act : Act) (flow : Flow) (settings : Settings) (h : Parts) (d : Device) (were : List Path) (alive : IsLive h.live) where
  -- none is spent
  pub round_done : HasRound act flow settings h h were were Done d d
  round_done =
      let swept = swept_nothing act flow settings h d alive in
      record {
        paths = [];
        taken = sym (append-nil were);
        swept =
            record {
              acted =
                  acted_nothing act (SweepsOn flow settings h h.live [] Done) d
                  (λ w rules entry s before deeds are at unhalted. sweep_begins rules entry h s w before deeds at unhalted);
              given = swept.given;
              only_plan = refl;
              later = swept.later;
              quiet = tt;
            };
      }

  -- memory is wanting
  pub round_lacks : HasRound act flow settings h h were were (Halted fault.OutOfMemory) d d
  round_lacks =
      let swept = swept_nothing act flow settings h d alive in
      record {
        paths = [];
        taken = sym (append-nil were);
        swept =
            record {
              acted =
                  acted_nothing act (SweepsOn flow settings h h.live [] (Halted fault.OutOfMemory)) d
                  (λ w rules entry s before deeds are at unhalted.
                  sweep_lacks rules entry h s w before deeds h.live [] [] (sweep_begins rules entry h s w before deeds at unhalted));
              given = swept.given;
              only_plan = refl;
              later = swept.later;
              quiet = (refl, memory);
            };
      }
    where
      memory : fault.OutOfMemory ≡ fault.Output → ⊥
      memory e = cc

  -- ## The call

  -- it failed
  pub round_breaks :
      (b : Device) (p : Path) (x : Failed) → IsFirstSpent h.live (Some p) → HasCalled act d b (RemovedCall p (Err x)) →
      HasRound act flow settings h h were (were ++ p ∷ []) Broken d b
  round_breaks b p x found call =
      record {
        paths = p ∷ [];
        taken = refl;
        swept =
            record {
              acted =
                  acted_one act (SweepsOn flow settings h h.live (p ∷ []) Broken) d b (RemovedCall p (Err x)) refl
                  (λ w e is follows. λ rules entry s before deeds are at unhalted.
                  sweep_breaks rules entry h s w before deeds act h.live [] [] p e (sweep_begins rules entry h s w before deeds at unhalted) found
                  (ap request is) (ap failed is) follows)
                  call;
              given = removal_given act d b p (Err x) call;
              only_plan = refl;
              later = record { alive = alive; settings = refl; jobs = refl };
              quiet = tt;
            };
      }

  -- it was made, and the plan told
  pub round_removes :
      (k : Parts) (b : Device) (p : Path) (round : Round) → IsFirstSpent h.live (Some p) → HasCalled act d b (RemovedCall p (Ok tt)) →
      k ≡ with_live k.live h → IsToldRound flow settings p h.live k.live round → HasRound act flow settings h k were (were ++ p ∷ []) round d b
  round_removes k b p round found call only told =
      record {
        paths = p ∷ [];
        taken = refl;
        swept =
            record {
              acted = subst (λ r. HasActed act (SweepsOn flow settings h k.live (p ∷ []) r) d b (is_broken r)) (sym told.is) (by told.answer told.answered quiet_answer);
              given = removal_given act d b p (Ok tt) call;
              only_plan = only;
              later = told.later_plan;
              quiet = told.quiet;
            };
      }
    where
      quiet_answer : (f : Fault) → told.answer ≡ Err f → is_device f ≡ false
      quiet_answer f e = (subst IsQuiet (told.is ∙ ap round_of e) told.quiet).0

      one :
          (answer : Result (Unit {0}) Fault) → (h.live.settings ≡ settings → IsAnswerOf flow settings (spent p h.live.base) k.live answer) →
          ((f : Fault) → answer ≡ Err f → is_device f ≡ false) →
          (w : World) (e : Event) → e.call ≡ RemovedCall p (Ok tt) → Follows act w (e ∷ []) →
          (rules : Rules) (entry : World) (s : Stand) (before : List Event) (deeds : List Deed) → AreRules flow settings rules →
          IsAt rules entry h s w before deeds → s.halted ≡ None → IsSwept rules entry h s w before deeds k.live (p ∷ []) (e ∷ []) answer
      one answer answered quiet w e is follows rules entry s before deeds are at unhalted =
          sweep_goes_on rules entry h s w before deeds act flow settings h.live k.live [] [] p e answer are
          (sweep_begins rules entry h s w before deeds at unhalted) found (ap request is, ap failed is, tt) follows told.later_plan
          (answered (at.settings ∙ are.settings_are)) quiet

      by :
          (answer : Result (Unit {0}) Fault) → (h.live.settings ≡ settings → IsAnswerOf flow settings (spent p h.live.base) k.live answer) →
          ((f : Fault) → answer ≡ Err f → is_device f ≡ false) →
          HasActed act (SweepsOn flow settings h k.live (p ∷ []) (round_of answer)) d b (is_broken (round_of answer))
      by (Ok u) answered quiet = acted_one act (SweepsOn flow settings h k.live (p ∷ []) Removed) d b (RemovedCall p (Ok tt)) refl (one (Ok u) answered quiet) call
      by (Err f) answered quiet =
          acted_one act (SweepsOn flow settings h k.live (p ∷ []) (Halted f)) d b (RemovedCall p (Ok tt)) refl (one (Err f) answered quiet) call

-- ## The plan is told

quiet_round : (answer : Result (Unit {0}) Fault) → IfErr answer (λ f. (is_device f ≡ false) × (f ≢ fault.Output)) → IsQuiet (round_of answer)
quiet_round (Ok u) quiet = tt
quiet_round (Err f) quiet = quiet

-- what the plan answered, and what was made of it
pub told_round :
    (flow : Flow) (settings : Settings) (p : Path) (live later : LivePlan) (told : Result (Unit {0}) PlanFault) (answer : Result (Unit {0}) Fault) →
    IsLive later → OnOk told (HasSpent p live later) → OnErr told (later ≡ live) →
    IfErr told (λ refusal. refusal ≢ refused.OutOfMemory → IsRefusedNow live.settings (spent p live.base) refusal) →
    IfErr answer (λ f. (is_device f ≡ false) × (f ≢ fault.Output)) →
    ((base : Base) → OnOk told (IsTold settings base later) → IfErr told (λ refusal. refusal ≢ refused.OutOfMemory → IsRefusedNow settings base refusal) →
    IsAnswerOf flow settings base later answer) →
    IsToldRound flow settings p live later (round_of answer)
told_round flow settings p live later (Ok u) answer alive done same refusals quiet answered =
    record {
      later_plan = record { alive = alive; settings = done.settings; jobs = ap (λ (b : Base). b.jobs) done.base ∙ jobs_spent p live.base };
      answer = answer;
      is = refl;
      answered = λ by. answered (spent p live.base) (record { alive = alive; settings_are = done.settings ∙ by; base_is = done.base }) tt;
      quiet = quiet_round answer quiet;
    }
told_round flow settings p live later (Err refusal) answer alive done same refusals quiet answered =
    record {
      later_plan = record { alive = alive; settings = ap (λ (x : LivePlan). x.settings) same; jobs = ap (λ (x : LivePlan). x.base.jobs) same };
      answer = answer;
      is = refl;
      answered = λ by. answered (spent p live.base) tt (λ other. subst (λ s. IsRefusedNow s (spent p live.base) refusal) by (refusals other));
      quiet = quiet_round answer quiet;
    }
