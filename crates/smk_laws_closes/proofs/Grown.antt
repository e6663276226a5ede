-- A job was closed, the plan was told of its end, and has grown: where that leads.
use Rattle.std.proofs.Common.{◌≡◌, Bool, true, false, List, ◌∷◌, ◌++◌, refl, sym, ap, subst, ◌∙◌, Some, None, Result, Ok, Err, append_assoc}
use Rattle.std.proofs.Math.Bool.{or-true}
use Rattle.smk_world.specs.declared.event.Event.{Event}
use Rattle.smk_world.specs.Devices.{AreLooks}
use Rattle.smk_world.specs.Runs.{Follows}
use Rattle.smk_world.specs.Trees.{IsIn}
use Rattle.smk_world.specs.World.{World, run}
use Rattle.smk_world.proofs.Devices.{looks_append}
use Rattle.smk_flow.specs.Flows.{Flow}
use Rattle.smk_pick.specs.declared.settings.Settings.{Settings}
use Rattle.smk_pick.specs.Shares.{Holds}
use Rattle.smk_plan.specs.States.{Plan}
use Rattle.smk_report.specs.declared.fault.Fault.TheVariants as fault
use Rattle.smk_keep.specs.declared.fault.KeepFault.{KeepFault}
use Rattle.smk_keep.specs.declared.fault.KeepFault.TheVariants as keep
use Rattle.smk_plan_live.specs.Live.{LivePlan}
use Rattle.smk_drive.specs.Moments.{Begun, seen}
use Rattle.smk_drive_outcome.specs.declared.outcome.Outcome.{Outcome}
use Rattle.smk_drive_step.specs.Crews.{goings}
use Rattle.smk_drive_course.specs.Stands.{IsReplanned, Stand, broken_by_device}
use Rattle.smk_drive_course.specs.Steps.{GoesByAnswer, HasGuarded, IsTended, LooksFail, guards_of}
use Rattle.smk_drive_first.specs.Opening.{AreRules}
use Rattle.smk_laws_moments.proofs.ChildrenOf.{run_more}
use Rattle.smk_laws_moments.specs.Staying.{IsListed}
use Rattle.smk_laws_turns.specs.Hubs.{AreChildrenOf, IsCountOf, IsKept, Parts, asks_in, plan_of}
use Rattle.smk_laws_turns.specs.Turning.{HasLed, TellsGrown}
use Rattle.smk_laws_turns.specs.Resting.{HasReplanned, IsTold}
use Rattle.smk_laws_turns.specs.GrowingRounds.{HasGrownOn}
use Rattle.smk_laws_turns.specs.Onward.{HasGrownBy, HasGrownTo, IsOnward}
use Rattle.smk_laws_closes.specs.Learning.{IsOutcomeIn, IsSamePlan, closed_base}
use Rattle.smk_laws_closes.proofs.Basis.{Closing, closed_home, closed_world, wait, without}
use Rattle.smk_laws_closes.proofs.Bridged.{bridged}
use Rattle.smk_laws_closes.proofs.Counting.{counted_more}
use Rattle.smk_laws_closes.proofs.Laws.{Laws}
use Rattle.smk_laws_closes.proofs.Leading.{IsNotedAt, all_events, closes, first_is, no_fault, told_of}
use Rattle.smk_laws_closes.proofs.Next.{kept_now}
use Rattle.smk_laws_closes.proofs.Onward.{onward}
use Rattle.smk_laws_closes.proofs.Tended.{followed, tended_by}

-- what follows, with more behind it
pub with_more : {A : Type 0} (closing guarding looks more : List A) → (closing ++ (guarding ++ looks)) ++ more ≡ closing ++ (guarding ++ (looks ++ more))
with_more closing guarding looks more =
    append_assoc closing (guarding ++ looks) more ∙ ap (λ es. closing ++ es) (append_assoc guarding looks more)

module _ (l : Laws) (x : Closing) (n : Parts) (noted : IsNotedAt x n) (flow : Flow) (settings : Settings) (by : AreRules flow settings x.rules)
    (guarding looks more : List Event) (guards : HasGuarded (guards_of x.job x.how) guarding) (quiet : AreLooks false looks) (unhalted : x.s.halted ≡ None)
    (follows : Follows x.act x.w (all_events x (guarding ++ (looks ++ more)))) (o : Outcome) (new : LivePlan) (same : IsSamePlan x.h.live new)
    (told : IsTold x.rules.settings (closed_base x.c.job o x.h.live.base) new) where
  abbrev m : Parts
  m = record n { live = new }

  -- once the plan was told, and once it has grown
  abbrev told_events : List Event
  told_events = all_events x (guarding ++ looks)

  abbrev grown_events : List Event
  grown_events = all_events x (guarding ++ (looks ++ more))

  both_follow : Follows x.act x.w told_events × Follows x.act (run x.w told_events) more
  both_follow =
      followed x.act x.w told_events more
      (subst (Follows x.act x.w) (sym (with_more (wait x ∷ x.closing) guarding looks more)) follows)

  later_world : run (run x.w told_events) more ≡ run x.w grown_events
  later_world = sym (run_more x.w told_events more) ∙ ap (run x.w) (with_more (wait x ∷ x.closing) guarding looks more)

  module _ (k : Parts) (outcome : IsOutcomeIn x.job o (run (closed_world x) guarding)) (grown : HasGrownOn flow settings (run x.w told_events) m k more) where
    grown_first : HasGrownTo x.rules x.entry (run x.w told_events) (without x) (x.before ++ grown_events) m k more
    grown_first =
        l.growth_goes_on x.act flow settings x.rules x.entry (run x.w told_events) (without x) (x.before ++ grown_events) m k more by
        (onward l x guarding looks guards quiet both_follow.0 unhalted o outcome new same told m refl noted.places)
        (ap (λ h. h.fault) noted.halt ∙ (x.at.halted ∙ unhalted)) grown both_follow.1

    -- in the world that has come
    abbrev now : World
    now = run x.w grown_events

    onward_now : IsOnward x.rules x.entry now (without x) k
    onward_now = subst (λ v. IsOnward x.rules x.entry v (without x) k) later_world grown_first.onward

    -- what is kept is so at a stand with the same jobs
    tells :
        (t : Stand) → t.begun ≡ (without x).begun → k.halt.fault ≡ t.halted → k.halt.only_waits ≡ t.broken →
        (t.halted ≡ None → IsKept x.rules x.entry k t now (x.before ++ grown_events)) →
        TellsGrown x.rules x.entry x.h x.s x.w x.before x.deeds k now (x.before ++ grown_events) t
    tells t begun halted waits kept =
        record {
          live = onward_now.live;
          settings = onward_now.settings;
          derived = onward_now.derived;
          home = onward_now.home;
          ours = λ whole. onward_now.ours;
          sourced = onward_now.sourced;
          planned = subst (λ (bs : List Begun). (b : Begun) → IsIn bs b → IsIn k.live.base.jobs.jobs b.job) (sym begun) onward_now.planned;
          listed =
              subst (λ (bs : List Begun). (b : Begun) → IsIn bs b → IsListed (seen x.rules x.entry) k.live.base.jobs.lists b.job) (sym begun) onward_now.listed;
          theirs = subst (λ bs. AreChildrenOf k.live.base.jobs.jobs bs k.places) (sym begun) onward_now.theirs;
          halted = halted;
          waits = waits;
          kept = kept;
        }

    tally : k.tally ≡ n.tally
    tally = ap (λ (h : Parts). h.tally) grown_first.others

    leads :
        (answer : Result (Unit {0}) KeepFault) (next t : Stand) → IsTended (guards_of x.job x.how) answer (guarding ++ (looks ++ more)) →
        IsReplanned x.rules (without x) (closed_world x) next → GoesByAnswer x.rules x.entry answer next (closed_world x) (x.before ++ wait x ∷ x.closing) t →
        TellsGrown x.rules x.entry x.h x.s x.w x.before x.deeds k now (x.before ++ grown_events) t →
        HasLed x.rules x.entry k x.s x.w x.before grown_events x.deeds (told_of x)
    leads answer next t tended replanned goes_by so =
        l.growing_leads x.rules x.entry x.h x.s x.w x.before x.deeds k x.places x.c grown_events (told_of x) t x.at
        (closes x (guarding ++ (looks ++ more)) answer next t tended replanned goes_by) refl x.put
        (grown_first.goings ∙ ap goings noted.places)
        (λ none.
        subst (IsCountOf x.rules.flow (x.deeds ++ told_of x)) (sym (tally ∙ noted.counted unhalted))
        (counted_more x.rules.flow x.deeds x.job x.how x.h.tally (x.at.counted unhalted)))
        so

    -- a look failed
    look_failed : grown_first.failed ≡ true → HasLed x.rules x.entry k x.s x.w x.before grown_events x.deeds (told_of x)
    look_failed failed =
        let plan : HasReplanned x.rules (closed_world x) (without x) = l.any_is_replanned x.rules (closed_world x) (without x) (closed_home x).formed in
        let halts = grown_first.broken failed in
        leads (Err keep.Device) plan.next (broken_by_device plan.next)
        (LooksFail guarding (looks ++ more) guards (looks_append true looks more quiet (subst (λ b. AreLooks b more) failed grown_first.looked)))
        plan.replanned refl
        (tells (broken_by_device plan.next) plan.same.begun
        (ap (λ h. h.fault) halts ∙ first_is n.halt.fault plan.next.halted fault.Device (ap (λ h. h.fault) noted.halt ∙ (x.at.halted ∙ sym plan.halted)))
        (ap (λ h. h.only_waits) halts ∙ or-true n.halt.only_waits)
        (λ none. no_fault plan.next.halted fault.Device none))

    module _ (failed : grown_first.failed ≡ false) where
      all_quiet : AreLooks false (looks ++ more)
      all_quiet = looks_append false looks more quiet (subst (λ b. AreLooks b more) failed grown_first.looked)

      gone : HasGrownBy x.rules x.entry now (without x) (x.before ++ grown_events) k
      gone = subst (λ v. HasGrownBy x.rules x.entry v (without x) (x.before ++ grown_events) k) later_world (grown_first.gone failed)

      planned_by : gone.to.halted ≡ None → (plan : Plan) × (gone.to.plan ≡ Some plan)
      planned_by none = (plan_of k.live, gone.plan (sym gone.halted ∙ none))

      kept : gone.to.halted ≡ None → IsKept x.rules x.entry k gone.to now (x.before ++ grown_events)
      kept none =
          let well : k.halt.fault ≡ None = sym gone.halted ∙ none in
          kept_now l x guarding (looks ++ more) guards all_quiet follows unhalted k gone.to
          (record {
            onward = onward_now;
            next = ap (λ (h : Parts). h.next) grown_first.others ∙ noted.next;
            asks = grown_first.asks ∙ ap asks_in noted.places;
            room =
                subst (λ r. Holds x.rules.settings.cores x.rules.settings.bounds r (asks_in x.places)) (sym (ap (λ (h : Parts). h.room) grown_first.others)) noted.room;
            tally = tally ∙ noted.counted unhalted;
            begun = gone.same.begun;
            plan = gone.plan well;
            known = gone.known well;
            clear = gone.clear well;
          })

      grows_on : HasLed x.rules x.entry k x.s x.w x.before grown_events x.deeds (told_of x)
      grows_on =
          let b =
          bridged l x guarding (looks ++ more) guards all_quiet follows unhalted gone.next gone.to gone.replanned gone.goes_by planned_by
          (λ f halted. gone.refused f (sym gone.halted ∙ halted)) in
          leads (Ok tt) gone.next gone.to (tended_by l x guarding (looks ++ more) guards all_quiet follows) b.0 b.1
          (tells gone.to gone.same.begun (sym gone.halted)
          (grown_first.waits failed ∙ (ap (λ h. h.only_waits) noted.halt ∙ (x.at.waits ∙ sym gone.same.broken))) kept)

    pub grown_leads : HasLed x.rules x.entry k x.s x.w x.before grown_events x.deeds (told_of x)
    grown_leads = go grown_first.failed refl
      where
        go : (b : Bool) → grown_first.failed ≡ b → HasLed x.rules x.entry k x.s x.w x.before grown_events x.deeds (told_of x)
        go true failed = look_failed failed
        go false failed = grows_on failed
