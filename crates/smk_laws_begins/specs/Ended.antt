-- What a run tells at its end.
use Rattle.std.specs.Prelude.{◌≡◌, true, List, None, Bool, IsTrue, is_none}
use Rattle.std.specs.List.{list_all}
use Rattle.smk_world.specs.declared.event.Event.{Event}
use Rattle.smk_world.specs.World.{World}
use Rattle.smk_trigger.specs.JobStates.{is_clean}
use Rattle.smk_drive.specs.Moments.{Rules}
use Rattle.smk_drive_course.specs.declared.ending.End.{End}
use Rattle.smk_drive_course.specs.Stands.{NoneLeft, Stand}
use Rattle.smk_drive_course.specs.Steps.{Deed}
use Rattle.smk_drive_course.specs.Driven.{HasEndedWell}
use Rattle.smk_laws_turns.specs.Hubs.{IsAt, Parts}

-- this is told of what is kept: the counts, the first job that failed, and which targets are current
pub record IsEndOf (h : Parts) (end : End) : Type 0 where
  pub started : end.started ≡ h.tally.started
  pub done : end.done ≡ h.tally.done
  pub failed : end.failed ≡ h.tally.failed
  pub first_one : end.first ≡ h.tally.first
  pub current : end.current ≡ h.live.plan.current

-- all jobs are Clean by the plan that is kept, and all targets current
pub record IsAllMade (h : Parts) : Type 0 where
  pub clean : IsTrue (list_all is_clean h.live.plan.states)
  pub current : IsTrue (list_all (λ (b : Bool). b) h.live.plan.current)

-- Where no fault has come, no child runs and none may start, a run has ended well with what is told of what it keeps; as long as all is made where no job failed.
abbrev pub EndsWell : Type 0
EndsWell =
    (rules : Rules) (entry : World) (h : Parts) (s : Stand) (w : World) (before : List Event) (deeds : List Deed) (end : End) →
    IsAt rules entry h s w before deeds →
    s.halted ≡ None →
    list_all is_none h.places ≡ true →
    NoneLeft rules s w before → IsEndOf h end → (h.tally.failed ≡ 0 → IsAllMade h) → HasEndedWell rules w before deeds s end
