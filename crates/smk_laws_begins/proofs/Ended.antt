-- What a run tells at its end.
use Rattle.std.proofs.Common.{◌≡◌, Bool, true, false, List, [], ◌∷◌, ◌&&◌, map, refl, sym, subst, ◌∙◌, None}
use Rattle.std.specs.Prelude.{IsTrue}
use Rattle.std.specs.List.{list_all}
use Rattle.smk_world.specs.declared.event.Event.{Event}
use Rattle.smk_world.specs.World.{World}
use Rattle.smk_trigger.specs.JobStates.{is_clean}
use Rattle.smk_pick.specs.declared.settings.Settings.{Settings}
use Rattle.smk_plan.specs.States.{Plan, is_current, test_some}
use Rattle.smk_plan_table.specs.Plans.{HasMadeAt}
use Rattle.smk_plan_live.specs.Lives.{IsAgreed, judging_of, progress_of}
use Rattle.smk_drive.specs.Moments.{Rules, seen}
use Rattle.smk_drive.specs.Moments as moments
use Rattle.smk_drive.specs.Reports.{is_current_by}
use Rattle.smk_drive_course.specs.Stands.{Stand, moment_of}
use Rattle.smk_drive_course.specs.Steps.{Deed}
use Rattle.smk_drive_course.specs.Driven.{are_clean}
use Rattle.smk_laws_turns.specs.Hubs.{IsAt, IsKept, Parts, plan_of}
use Rattle.smk_laws_turns.proofs.Crew.{crew_idle}
use Rattle.smk_laws_begins.specs.Ended.{EndsWell, IsAllMade}

only_one : (b : Bool) → b ≡ true → (b && true) ≡ true
only_one true h = refl
only_one false h = h

module _
    (rules : Rules) (entry : World) (h : Parts) (s : Stand) (w : World) (before : List Event) (deeds : List Deed)
    (at : IsAt rules entry h s w before deeds) (calm : s.halted ≡ None) where
  kept : IsKept rules entry h s w before
  kept = at.kept calm

  made : HasMadeAt (judging_of (seen rules w) h.live.settings h.live.base) h.live.base.jobs h.live.plan
  made = (at.live.now (seen rules w) (subst (λ (x : Settings). IsAgreed (seen rules w) x h.live.base) (sym at.settings) kept.agrees)).made

  -- which targets are current is told by what stands there and by the states, however far the run is
  current_so : h.live.plan.current ≡ map (is_current_by rules (moment_of s w before)) rules.settings.targets
  current_so =
      made.current
      ∙ ((λ i. map (is_current (seen rules w) (at.settings i) (moments.progress_of w s.begun) (plan_of h.live)) (at.settings i).targets)
      ∙ (λ i. map (λ p. test_some (λ (plan : Plan). is_current (seen rules w) rules.settings (moments.progress_of w s.begun) plan p) (sym kept.plan i)) rules.settings.targets))

  clean_so : IsAllMade h → IsTrue (are_clean s.plan)
  clean_so all = subst (λ o. IsTrue (are_clean o)) (sym kept.plan) (only_one (list_all is_clean h.live.plan.states) all.clean)

pub ends_well : EndsWell
ends_well rules entry h s w before deeds end at calm free none_left is all =
    record {
      unhalted = calm;
      idle = crew_idle h.places s.runs at.crew free;
      none_left = none_left;
      told =
          record {
            started = is.started ∙ (at.counted calm).started;
            done = is.done ∙ (at.counted calm).done;
            failed = is.failed ∙ (at.counted calm).failed;
            first_one = is.first_one ∙ (at.counted calm).first_one;
            current = is.current ∙ current_so rules entry h s w before deeds at calm;
          };
      clean = λ none.
          let made = all (sym is.failed ∙ none) in (
            clean_so rules entry h s w before deeds at calm made,
            subst (λ bs. IsTrue (list_all (λ (b : Bool). b) bs)) (sym is.current) made.current,
          );
    }
