-- What a run that has closed a job makes of where it stands: each way in which that goes on.
use Rattle.std.proofs.Common.{◌≡◌, ◌≢◌, true, false, List, [], ◌∷◌, ◌++◌, refl, sym, ap, subst, ◌∙◌, Option, Some, None, Result, Ok, Err, append-nil}
use Rattle.std.proofs.Math.Bool.{or-false, or-true}
use Rattle.smk_world.specs.declared.event.Event.{Event}
use Rattle.smk_world.specs.Devices.{AreLooks}
use Rattle.smk_world.specs.Requests.{IsCutShort}
use Rattle.smk_world.specs.Runs.{Follows}
use Rattle.smk_world.specs.World.{run}
use Rattle.smk_flow.specs.declared.job.Job.{Job}
use Rattle.smk_pick.specs.Shares.{Holds}
use Rattle.smk_report.specs.declared.fault.Fault.{Fault}
use Rattle.smk_report.specs.declared.fault.Fault.TheVariants as fault
use Rattle.smk_keep.specs.declared.fault.KeepFault.{KeepFault}
use Rattle.smk_keep.specs.declared.fault.KeepFault.TheVariants as keep
use Rattle.smk_keep.specs.Keeping.{protect_requests}
use Rattle.smk_plan_live.specs.Live.{LivePlan}
use Rattle.smk_plan_live.specs.Lives.{IsLive}
use Rattle.smk_drive_step.specs.Crews.{IsPutFor, or_later}
use Rattle.smk_drive_course.specs.Stands.{IsReplanned, LacksMemory, Stand, WasHalted, broken_by_device, first_fault, halted_by}
use Rattle.smk_drive_course.specs.Steps.{Closed, Deed, GoesByAnswer, GuardingFails, HasClosed, HasGuarded, IsTended, LooksFail, Tended, Unguarded, guards_of}
use Rattle.smk_laws_turns.specs.Hubs.{IsHome, IsOurs, Parts, asks_in}
use Rattle.smk_laws_turns.specs.Turning.{HasLed, faulted}
use Rattle.smk_laws_turns.proofs.Turning.{closing_leads}
use Rattle.smk_laws_turns.specs.Resting.{HasReplanned}
use Rattle.smk_laws_turns.proofs.Homes.{home_stays}
use Rattle.smk_laws_closes.specs.Endings.{told_end}
use Rattle.smk_laws_closes.specs.Closes.{counted_end}
use Rattle.smk_laws_closes.specs.Learning.{IsSamePlan}
use Rattle.smk_laws_closes.proofs.Basis.{Closing, begun_end, begun_job, begun_recipe, closed_home, closed_world, its, its_begun, jobs, of_plan, recipe, wait, waited, without}
use Rattle.smk_laws_closes.proofs.Laws.{Laws}

-- What is kept once the end of the job was put and counted, where no fault came of that.
pub record IsNotedAt (x : Closing) (n : Parts) : Type 0 where
  pub live : n.live ≡ x.h.live
  pub next : n.next ≡ x.h.next
  pub halt : n.halt ≡ x.h.halt
  pub places : n.places ≡ x.places
  pub room : Holds x.rules.settings.cores x.rules.settings.bounds n.room (asks_in x.places)
  pub counted : x.s.halted ≡ None → n.tally ≡ counted_end x.rules.flow x.job x.how x.h.tally

-- what is told of it
abbrev pub told_of : Closing → List Deed
told_of x = Closed x.job (told_end x.how) ∷ []

abbrev pub all_events : Closing → List Event → List Event
all_events x tending = (wait x ∷ x.closing) ++ tending

pub no_fault : {A : Type 0} (o : Option Fault) (f : Fault) → first_fault o f ≡ None → A
no_fault None f h = absurd (never h)
  where
    never : Some f ≡ None → ⊥
    never e = cc
no_fault (Some g) f h = absurd (never h)
  where
    never : Some g ≡ None → ⊥
    never e = cc

pub first_is : (a b : Option Fault) (f : Fault) → a ≡ b → Some (or_later a f) ≡ first_fault b f
first_is None b f e = ap (λ o. first_fault o f) e
first_is (Some g) b f e = ap (λ o. first_fault o f) e

module _ (x : Closing) where
  -- the job is closed
  abbrev pub closes :
      (tending : List Event) (answer : Result (Unit {0}) KeepFault) (next t : Stand) → IsTended (guards_of x.job x.how) answer tending →
      IsReplanned x.rules (without x) (closed_world x) next → GoesByAnswer x.rules x.entry answer next (closed_world x) (x.before ++ wait x ∷ x.closing) t →
      HasClosed x.rules x.entry x.s x.w x.before (all_events x tending) (told_of x) t
  closes tending answer next t tended replanned goes_by =
      record {
        going = x.c.going;
        begun = its_begun x;
        ended = x.ended;
        left = x.left;
        closing = x.closing;
        tending = tending;
        how = x.how;
        answer = answer;
        next = next;
        unbroken = x.unbroken;
        waited = waited x;
        is_job = ((its x).has_begun, begun_recipe x);
        none_left = x.none_left;
        events = refl;
        closed = x.closed;
        tended = subst (λ (j : Job). IsTended (guards_of j x.how) answer tending) (sym (begun_job x)) tended;
        deeds_are = λ i. Closed (sym (begun_job x) i) (sym (begun_end x) i) ∷ [];
        replanned = replanned;
        goes_by = goes_by;
      }

  home_then : (tending : List Event) → Follows x.act x.w (all_events x tending) → IsHome x.entry (run x.w (all_events x tending))
  home_then tending follows = home_stays x.act x.entry x.w (all_events x tending) follows x.at.home

  -- What is kept then, where a fault has come.
  pub record IsHalted (k : Parts) (t : Stand) : Type 0 where
    pub plan : IsSamePlan x.h.live k.live
    pub places : k.places ≡ x.places
    pub fault_is : k.halt.fault ≡ t.halted
    pub waits : k.halt.only_waits ≡ t.broken
    pub came : t.halted ≢ None

  pub halted_leads :
      (tending : List Event) (answer : Result (Unit {0}) KeepFault) (next t : Stand) (k : Parts) →
      IsTended (guards_of x.job x.how) answer tending →
      IsReplanned x.rules (without x) (closed_world x) next →
      GoesByAnswer x.rules x.entry answer next (closed_world x) (x.before ++ wait x ∷ x.closing) t →
      Follows x.act x.w (all_events x tending) →
      (t.broken ≡ false → IsOurs x.rules x.entry (jobs x) (run x.w (all_events x tending))) →
      IsHalted k t → HasLed x.rules x.entry k x.s x.w x.before (all_events x tending) x.deeds (told_of x)
  halted_leads tending answer next t k tended replanned goes_by follows ours h =
      closing_leads x.rules x.entry x.h x.s x.w x.before x.deeds k x.c (all_events x tending) (told_of x) t x.at
      (closes tending answer next t tended replanned goes_by) refl (subst (IsPutFor (Some x.c) None x.h.places) (sym h.places) x.put)
      (λ none. absurd (h.came none))
      (record {
        live = h.plan.alive;
        settings = h.plan.settings_stay;
        jobs = h.plan.jobs_stay;
        home = home_then tending follows;
        ours = ours;
        halted = h.fault_is;
        waits = h.waits;
        kept = λ none. absurd (h.came none);
      })

  module _ (l : Laws) (n : Parts) (noted : IsNotedAt x n) where
    some_plan : HasReplanned x.rules (closed_world x) (without x)
    some_plan = l.any_is_replanned x.rules (closed_world x) (without x) (closed_home x).formed

    next_halted : n.halt.fault ≡ some_plan.next.halted
    next_halted = ap (λ h. h.fault) noted.halt ∙ (x.at.halted ∙ sym some_plan.halted)

    next_broken : n.halt.only_waits ≡ some_plan.next.broken
    next_broken = ap (λ h. h.only_waits) noted.halt ∙ (x.at.waits ∙ sym some_plan.same.broken)

    same_plan : IsSamePlan x.h.live n.live
    same_plan =
        record {
          alive = subst IsLive (sym noted.live) x.at.live;
          settings_stay = ap (λ (p : LivePlan). p.settings) noted.live;
          jobs_stay = ap (λ (p : LivePlan). p.base.jobs) noted.live;
        }

    -- memory was wanting
    short_is : (m : Parts) → IsSamePlan x.h.live m.live → m.places ≡ n.places → m.halt ≡ n.halt → IsHalted (faulted fault.OutOfMemory m) (halted_by fault.OutOfMemory some_plan.next)
    short_is m plan places halt =
        record {
          plan = plan;
          places = places ∙ noted.places;
          fault_is = first_is m.halt.fault some_plan.next.halted fault.OutOfMemory (ap (λ h. h.fault) halt ∙ next_halted);
          waits = or-false m.halt.only_waits ∙ (ap (λ h. h.only_waits) halt ∙ next_broken);
          came = no_fault some_plan.next.halted fault.OutOfMemory;
        }

    -- a call failed
    broken_is : (m : Parts) → IsSamePlan x.h.live m.live → m.places ≡ n.places → m.halt ≡ n.halt → IsHalted (faulted fault.Device m) (broken_by_device some_plan.next)
    broken_is m plan places halt =
        record {
          plan = plan;
          places = places ∙ noted.places;
          fault_is = first_is m.halt.fault some_plan.next.halted fault.Device (ap (λ h. h.fault) halt ∙ next_halted);
          waits = or-true m.halt.only_waits;
          came = no_fault some_plan.next.halted fault.Device;
        }

    tended_ours : (tending : List Event) → IsTended (guards_of x.job x.how) (Ok tt) tending → Follows x.act x.w (all_events x tending) →
        IsOurs x.rules x.entry (jobs x) (run x.w (all_events x tending))
    tended_ours tending tended follows =
        (l.tend_differs x.rules x.entry x.h x.s x.w x.before x.deeds x.act x.c.going x.ended x.left x.closing tending x.how x.job x.at x.owners x.reads
        x.unbroken (waited x) (of_plan x) (recipe x) x.closed tended follows).0.ours

    -- there was no memory to make outputs read-only
    pub unguarded : Follows x.act x.w (all_events x []) → HasLed x.rules x.entry (faulted fault.OutOfMemory n) x.s x.w x.before (all_events x []) x.deeds (told_of x)
    unguarded follows =
        let ours = l.close_differs x.rules x.entry x.h x.s x.w x.before x.deeds x.act x.c.going x.ended x.left x.closing x.how x.at x.owners x.reads x.unbroken (waited x) x.closed x.follows in
        halted_leads [] (Err keep.OutOfMemory) some_plan.next (halted_by fault.OutOfMemory some_plan.next) (faulted fault.OutOfMemory n) Unguarded some_plan.replanned refl
        follows (λ whole. subst (λ es. IsOurs x.rules x.entry (jobs x) (run x.w (wait x ∷ es))) (sym (append-nil x.closing)) ours.ours)
        (short_is n same_plan refl refl)

    -- a call failed as outputs were made read-only
    pub guard_fails :
        (guarding : List Event) → IsCutShort (protect_requests (guards_of x.job x.how)) guarding → Follows x.act x.w (all_events x guarding) →
        HasLed x.rules x.entry (faulted fault.Device n) x.s x.w x.before (all_events x guarding) x.deeds (told_of x)
    guard_fails guarding cut follows =
        halted_leads guarding (Err keep.Device) some_plan.next (broken_by_device some_plan.next) (faulted fault.Device n) (GuardingFails guarding cut) some_plan.replanned refl
        follows (λ whole. absurd (never whole)) (broken_is n same_plan refl refl)
      where
        never : true ≡ false → ⊥
        never h = cc

    -- a fault had come before
    pub was_halted :
        (guarding : List Event) (f : Fault) → HasGuarded (guards_of x.job x.how) guarding → n.halt.fault ≡ Some f → Follows x.act x.w (all_events x guarding) →
        HasLed x.rules x.entry n x.s x.w x.before (all_events x guarding) x.deeds (told_of x)
    was_halted guarding f guards came follows =
        let tended = subst (IsTended (guards_of x.job x.how) (Ok tt)) (append-nil guarding) (Tended guarding [] guards refl) in
        let some : some_plan.next.halted ≢ None = λ none. never (sym came ∙ (next_halted ∙ none)) in
        halted_leads guarding (Ok tt) some_plan.next some_plan.next n tended some_plan.replanned (WasHalted some) follows (λ whole. tended_ours guarding tended follows)
        (record { plan = same_plan; places = noted.places; fault_is = next_halted; waits = next_broken; came = some })
      where
        never : Some f ≡ None → ⊥
        never h = cc

    module _ (new : LivePlan) (plan : IsSamePlan n.live new) where
      new_plan : IsSamePlan x.h.live new
      new_plan =
          record {
            alive = plan.alive;
            settings_stay = plan.settings_stay ∙ ap (λ (p : LivePlan). p.settings) noted.live;
            jobs_stay = plan.jobs_stay ∙ ap (λ (p : LivePlan). p.base.jobs) noted.live;
          }

      -- a look failed
      pub look_fails :
          (guarding looks : List Event) → HasGuarded (guards_of x.job x.how) guarding → AreLooks true looks → Follows x.act x.w (all_events x (guarding ++ looks)) →
          HasLed x.rules x.entry (faulted fault.Device (record n { live = new })) x.s x.w x.before (all_events x (guarding ++ looks)) x.deeds (told_of x)
      look_fails guarding looks guards looked follows =
          halted_leads (guarding ++ looks) (Err keep.Device) some_plan.next (broken_by_device some_plan.next) (faulted fault.Device (record n { live = new }))
          (LooksFail guarding looks guards looked) some_plan.replanned refl follows (λ whole. absurd (never whole))
          (broken_is (record n { live = new }) new_plan refl refl)
        where
          never : true ≡ false → ⊥
          never h = cc

      -- memory was wanting for what was looked at
      pub looks_short :
          (guarding looks : List Event) → HasGuarded (guards_of x.job x.how) guarding → AreLooks false looks → Follows x.act x.w (all_events x (guarding ++ looks)) →
          HasLed x.rules x.entry (faulted fault.OutOfMemory (record n { live = new })) x.s x.w x.before (all_events x (guarding ++ looks)) x.deeds (told_of x)
      looks_short guarding looks guards looked follows =
          let tended = Tended guarding looks guards looked in
          halted_leads (guarding ++ looks) (Ok tt) some_plan.next (halted_by fault.OutOfMemory some_plan.next) (faulted fault.OutOfMemory (record n { live = new }))
          tended some_plan.replanned LacksMemory follows (λ whole. tended_ours (guarding ++ looks) tended follows)
          (short_is (record n { live = new }) new_plan refl refl)
