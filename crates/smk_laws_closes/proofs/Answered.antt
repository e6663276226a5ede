-- The plan that is kept was told of the end of a job, and something is refused, or memory was wanting.
use Rattle.std.proofs.Common.{◌≡◌, ◌≢◌, false, List, ◌++◌, refl, sym, ap, subst, ◌∙◌, Some, None, Result, Ok, Err}
use Rattle.smk_world.specs.declared.event.Event.{Event}
use Rattle.smk_world.specs.Devices.{AreLooks}
use Rattle.smk_world.specs.Runs.{Follows}
use Rattle.smk_world.specs.World.{World, run}
use Rattle.smk_flow.specs.Flows.{Flow}
use Rattle.smk_pick.specs.declared.settings.Settings.{Settings}
use Rattle.smk_report.specs.declared.fault.Fault.{Fault}
use Rattle.smk_plan_live.specs.Live.{LivePlan}
use Rattle.smk_drive_outcome.specs.declared.outcome.Outcome.{Outcome}
use Rattle.smk_drive_step.specs.Crews.{IsPutFor, is_device, or_later}
use Rattle.smk_drive_course.specs.Steps.{HasGuarded, guards_of}
use Rattle.smk_drive_first.specs.Opening.{AreRules}
use Rattle.smk_drive_hub.specs.Keeping.{heeded}
use Rattle.smk_laws_turns.specs.Hubs.{IsCountOf, Parts}
use Rattle.smk_laws_turns.specs.Turning.{HasLed, TellsOf, faulted}
use Rattle.smk_laws_turns.proofs.Turning.{closing_leads}
use Rattle.smk_laws_turns.specs.Resting.{HasGoneBy, IsReplyOf}
use Rattle.smk_laws_closes.specs.Learning.{HasLearnt, IsOutcomeIn, IsSamePlan, IsToldOf, LookFails, LooksShort, closed_base}
use Rattle.smk_laws_closes.proofs.Basis.{Closing, closed_world, without}
use Rattle.smk_laws_closes.proofs.Counting.{counted_more, heeded_waits}
use Rattle.smk_laws_closes.proofs.Laws.{Laws}
use Rattle.smk_laws_closes.proofs.Leading.{IsNotedAt, all_events, closes, look_fails, looks_short, told_of}
use Rattle.smk_laws_closes.proofs.Tended.{closed_for, guarded_world, tended_by, tended_home, tended_world}
use Rattle.smk_laws_closes.proofs.Told.{gone, refused_then}

abbrev WithFault : Result (Unit {0}) Fault → Result (Unit {0}) Fault → Type 0
WithFault a b = ◌≡◌ {A = Result (Unit {0}) Fault} a b

one_error : (g f : Fault) → WithFault (Err g) (Err f) → g ≡ f
one_error g f k = cc

module _ (l : Laws) (x : Closing) (n : Parts) (noted : IsNotedAt x n) (flow : Flow) (settings : Settings) (by : AreRules flow settings x.rules)
    (guarding looks : List Event) (guards : HasGuarded (guards_of x.job x.how) guarding) (unhalted : x.s.halted ≡ None) (follows : Follows x.act x.w (all_events x (guarding ++ looks)))
    (new : LivePlan) (same : IsSamePlan x.h.live new) where
  -- no fault had come before
  none_yet : n.halt.fault ≡ None
  none_yet = ap (λ h. h.fault) noted.halt ∙ (x.at.halted ∙ unhalted)

  module _ (quiet : AreLooks false looks) (o : Outcome) (f : Fault)
      (outcome : IsOutcomeIn x.job o (guarded_world l x guarding looks guards quiet follows))
      (answers : IsReplyOf flow settings (closed_base x.c.job o x.h.live.base) new (Err f)) (other : is_device f ≡ false) where
    abbrev now : World
    now = tended_world l x guarding looks guards quiet follows

    abbrev m : Parts
    m = record n { live = new }

    abbrev events : List Event
    events = x.before ++ all_events x (guarding ++ looks)

    abbrev went : HasGoneBy x.rules x.entry now (without x) events (closed_base x.c.job o x.h.live.base) new (Err f)
    went = gone l x guarding looks guards quiet follows unhalted o outcome flow settings by new f answers

    never : {A : Type 0} → went.to.halted ≡ None → A
    never none = absurd (go (sym went.halted ∙ none))
      where
        go : Some f ≡ None → ⊥
        go h = cc

    tells : TellsOf x.rules x.entry x.h x.s x.w x.before x.deeds (faulted f m) now events went.to
    tells =
        record {
          live = same.alive;
          settings = same.settings_stay;
          jobs = same.jobs_stay;
          home = tended_home l x guarding looks guards quiet follows;
          ours = λ whole. (closed_for l x guarding looks guards quiet follows).ours;
          halted = ap (λ o. Some (or_later o f)) none_yet ∙ sym went.halted;
          waits =
              heeded_waits (Err f) m (λ g e. ap is_device (sym (one_error f g e)) ∙ other)
              ∙ (ap (λ h. h.only_waits) noted.halt ∙ (x.at.waits ∙ sym went.same.broken));
          kept = λ none. never none;
        }

    pub told_leads : HasLed x.rules x.entry (faulted f m) x.s x.w x.before (all_events x (guarding ++ looks)) x.deeds (told_of x)
    told_leads =
        let b = refused_then l x guarding looks guards quiet follows unhalted o outcome flow settings by new f answers in
        closing_leads x.rules x.entry x.h x.s x.w x.before x.deeds (faulted f m) x.c (all_events x (guarding ++ looks)) (told_of x) went.to x.at
        (closes x (guarding ++ looks) (Ok tt) went.next went.to (tended_by l x guarding looks guards quiet follows) b.0 b.1) refl
        (subst (IsPutFor (Some x.c) None x.h.places) (sym noted.places) x.put)
        (λ none.
        subst (IsCountOf x.rules.flow (x.deeds ++ told_of x)) (sym (noted.counted unhalted))
        (counted_more x.rules.flow x.deeds x.job x.how x.h.tally (x.at.counted unhalted)))
        tells

  -- by what was learnt
  pub learnt_leads :
      (answer : Result (Unit {0}) Fault) → HasLearnt flow settings x.c.job x.job n.live new (run (closed_world x) guarding) looks answer →
      IsSamePlan n.live new → (heeded answer (record n { live = new })).halt.fault ≢ None →
      HasLed x.rules x.entry (heeded answer (record n { live = new })) x.s x.w x.before (all_events x (guarding ++ looks)) x.deeds (told_of x)
  learnt_leads answer (LookFails looked) plan came = look_fails x l n noted new plan guarding looks guards looked follows
  learnt_leads answer (LooksShort looked) plan came = looks_short x l n noted new plan guarding looks guards looked follows
  learnt_leads answer (IsToldOf o (Ok u) quiet outcome answers other) plan came = absurd (came none_yet)
  learnt_leads answer (IsToldOf o (Err f) quiet outcome answers other) plan came =
      told_leads quiet o f outcome
      (subst (λ (p : LivePlan). IsReplyOf flow settings (closed_base x.c.job o p.base) new (Err f)) noted.live
      (answers (ap (λ (p : LivePlan). p.settings) noted.live ∙ (x.at.settings ∙ by.settings_are)))) other
