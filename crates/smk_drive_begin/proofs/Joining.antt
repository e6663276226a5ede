-- One round of a sweep after others.
use Rattle.std.proofs.Common.{◌≡◌, List, [], ◌∷◌, ◌++◌, refl, sym, ap, subst, ◌∙◌, append_assoc, append-nil}
use Rattle.std.specs.Prelude.{IsTrue}
use Rattle.smk_world.specs.declared.event.Event.{Event}
use Rattle.smk_world.specs.Devices.{Device}
use Rattle.smk_world.specs.Trees.{Act, Path}
use Rattle.smk_world.specs.World.{World, after, run}
use Rattle.smk_world.proofs.Devices.{acted_nothing, acted_then}
use Rattle.smk_flow.specs.Flows.{Flow}
use Rattle.smk_pick.specs.declared.settings.Settings.{Settings}
use Rattle.smk_plan_live.specs.Live.{LivePlan}
use Rattle.smk_plan_live.specs.Lives.{IsLive}
use Rattle.smk_report.specs.declared.fault.Fault.{Fault}
use Rattle.smk_report.specs.declared.fault.Fault.TheVariants as fault
use Rattle.smk_run.proofs.Honest.{given_none, given_then}
use Rattle.smk_drive.specs.Moments.{Rules, is_spent_now, seen}
use Rattle.smk_drive_course.specs.Stands.{GoesBy, IsClear, Stand, broken_by_device, moment_of}
use Rattle.smk_drive_course.specs.Steps.{AreRemoved, Deed, IsAsListed, NoMore, OneMore}
use Rattle.smk_laws_moments.proofs.ChildrenOf.{run_more}
use Rattle.smk_laws_turns.specs.Hubs.{IsAt, Parts}
use Rattle.smk_laws_turns.specs.Turning.{faulted}
use Rattle.smk_laws_begins.specs.Sweeping.{IsSweptNot, IsSweptShort, IsSweptTo, with_live}
use Rattle.smk_laws_begins.proofs.Onward.{sweep_begins}
use Rattle.smk_drive_begin.specs.declared.rounds.Round.{Round}
use Rattle.smk_drive_begin.specs.declared.rounds.Round.TheVariants.{Removed, Done, Halted, Broken}
use Rattle.smk_drive_begin.specs.Rounds.{HasSwept, IsRoundOf, SweepsOn, is_broken}

removed_both :
    (rules : Rules) (s u t : Stand) (w : World) (before : List Event) (ps qs : List Path) (es fs : List Event) →
    AreRemoved rules s w before ps es u → AreRemoved rules u (run w es) (before ++ es) qs fs t → AreRemoved rules s w before (ps ++ qs) (es ++ fs) t
removed_both rules _ _ t _ _ _ qs _ fs (NoMore s w before) more = subst (λ b. AreRemoved rules s w b qs fs t) (append-nil before) more
removed_both rules _ _ t _ _ _ qs _ fs (OneMore s x u w before p ps e es clear spent listed done replanned rest) more =
    OneMore s x t w before p (ps ++ qs) e (es ++ fs) clear spent listed done replanned
    (removed_both rules x u t (after w e) (before ++ e ∷ []) ps qs es fs rest
    (subst (λ b. AreRemoved rules u (run (after w e) es) b qs fs t) (sym (append_assoc before (e ∷ []) es)) more))

-- a list without elements has none at its front, and none behind
none_before : {A : Type 0} (xs ys : List A) → xs ++ ys ≡ [] → xs ≡ []
none_before [] ys h = refl
none_before (x ∷ xs) ys h = absurd (go h)
  where
    go : x ∷ (xs ++ ys) ≡ [] → ⊥
    go e = cc

none_behind : {A : Type 0} (xs ys : List A) → xs ++ ys ≡ [] → ys ≡ []
none_behind [] ys h = h
none_behind (x ∷ xs) ys h = absurd (go h)
  where
    go : x ∷ (xs ++ ys) ≡ [] → ⊥
    go e = cc

module _
    (rules : Rules) (entry : World) (h : Parts) (s : Stand) (w : World) (before : List Event) (deeds : List Deed) (live : LivePlan) (ps : List Path) (es : List Event)
    (first : IsSweptTo rules entry h s w before deeds live ps es) where
  -- after all of these events
  moved : (P : World → List Event → Type 0) (fs : List Event) → P (run (run w es) fs) ((before ++ es) ++ fs) → P (run w (es ++ fs)) (before ++ (es ++ fs))
  moved P fs x = subst (λ v. P v (before ++ (es ++ fs))) (sym (run_more w es fs)) (subst (P (run (run w es) fs)) (append_assoc before es fs) x)

  abbrev k : Parts
  k = with_live live h

  to_then :
      (later : LivePlan) (qs : List Path) (fs : List Event) → IsSweptTo rules entry k first.stand (run w es) (before ++ es) deeds later qs fs →
      IsSweptTo rules entry h s w before deeds later (ps ++ qs) (es ++ fs)
  to_then later qs fs next =
      record {
        stand = next.stand;
        removed = removed_both rules s first.stand next.stand w before ps qs es fs first.removed next.removed;
        unhalted = next.unhalted;
        still = λ none. next.still (none_behind ps qs none) ∙ first.still (none_before ps qs none);
        at = moved (λ v b. IsAt rules entry (with_live later h) next.stand v b deeds) fs next.at;
      }

  short_then :
      (later : LivePlan) (qs : List Path) (fs : List Event) (f : Fault) →
      IsSweptShort rules entry k first.stand (run w es) (before ++ es) deeds later qs fs f →
      IsSweptShort rules entry h s w before deeds later (ps ++ qs) (es ++ fs) f
  short_then later qs fs f next =
      record {
        last = next.last;
        to = next.to;
        removed = removed_both rules s first.stand next.last w before ps qs es fs first.removed next.removed;
        goes_by = moved (λ v b. GoesBy rules entry next.last v b next.to) fs next.goes_by;
        unhalted = next.unhalted;
        halted = next.halted;
        quiet = next.quiet;
        lacking = λ none. next.lacking (none_behind ps qs none);
        still = λ none. next.still (none_behind ps qs none) ∙ first.still (none_before ps qs none);
        unfaulted = next.unfaulted;
        at = moved (λ v b. IsAt rules entry (with_live later (faulted f h)) next.to v b deeds) fs next.at;
      }

  not_then :
      (later : LivePlan) (fs : List Event) → IsSweptNot rules entry k first.stand (run w es) (before ++ es) deeds later fs →
      IsSweptNot rules entry h s w before deeds later (es ++ fs)
  not_then later fs next =
      record {
        paths = ps ++ next.paths;
        removing = es ++ next.removing;
        failing = next.failing;
        last = next.last;
        removed = removed_both rules s first.stand next.last w before ps next.paths es next.removing first.removed next.removed;
        events = ap (λ xs. es ++ xs) next.events ∙ sym (append_assoc es next.removing (next.failing ∷ []));
        fails = next.fails;
        path = next.path;
        called = next.called;
        clear = moved (λ v b. IsClear rules next.last v b) next.removing next.clear;
        is_spent = moved (λ v b. IsTrue (is_spent_now rules (moment_of next.last v b) next.path)) next.removing next.is_spent;
        listed = moved (λ v b. IsAsListed (seen rules v) next.path) next.removing next.listed;
        at = moved (λ v b. IsAt rules entry (with_live later (faulted fault.Device h)) (broken_by_device next.last) v b deeds) fs next.at;
      }

  pub round_then :
      (later : LivePlan) (qs : List Path) (round : Round) (fs : List Event) →
      IsRoundOf rules entry k first.stand (run w es) (before ++ es) deeds later qs round fs →
      IsRoundOf rules entry h s w before deeds later (ps ++ qs) round (es ++ fs)
  round_then later qs Removed fs next = to_then later qs fs next
  round_then later qs Done fs next = to_then later qs fs next
  round_then later qs (Halted f) fs next = short_then later qs fs f next
  round_then later qs Broken fs next = not_then later fs next

-- ## What was done

pub swept_nothing :
    (act : Act) (flow : Flow) (settings : Settings) (h : Parts) (d : Device) → IsLive h.live → HasSwept act flow settings h h [] Removed d d
swept_nothing act flow settings h d alive =
    record {
      acted =
          acted_nothing act (SweepsOn flow settings h h.live [] Removed) d
          (λ w rules entry s before deeds are at unhalted. sweep_begins rules entry h s w before deeds at unhalted);
      given = given_none act d;
      only_plan = refl;
      later = record { alive = alive; settings = refl; jobs = refl };
      quiet = tt;
    }

module _ (act : Act) (flow : Flow) (settings : Settings) (h l : Parts) (ps qs : List Path) (round : Round) (a b c : Device) where
  abbrev Joins : Parts → Type 0
  Joins k = HasSwept act flow settings h k ps Removed a b → HasSwept act flow settings k l qs round b c → HasSwept act flow settings h l (ps ++ qs) round a c

  with_plan : (live : LivePlan) → Joins (with_live live h)
  with_plan live first second =
      record {
        acted =
            acted_then act (SweepsOn flow settings h live ps Removed) (SweepsOn flow settings (with_live live h) l.live qs round)
            (SweepsOn flow settings h l.live (ps ++ qs) round) a b c (is_broken round)
            (λ w es fs follows x more y. λ rules entry s before deeds are at unhalted.
            let one = x rules entry s before deeds are at unhalted in
            round_then rules entry h s w before deeds live ps es one l.live qs round fs
            (y rules entry one.stand (before ++ es) deeds are one.at one.unhalted))
            first.acted second.acted;
        given = given_then act a b c first.acted.cause.later second.acted.cause.later first.given second.given;
        only_plan = second.only_plan;
        later =
            record {
              alive = second.later.alive;
              settings = second.later.settings ∙ first.later.settings;
              jobs = second.later.jobs ∙ first.later.jobs;
            };
        quiet = second.quiet;
      }

  -- one after another
  pub swept_then : (k : Parts) → Joins k
  swept_then k first second = subst Joins (sym first.only_plan) (with_plan k.live) first second
