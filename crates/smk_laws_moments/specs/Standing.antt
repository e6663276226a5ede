-- Stands of a run and the moments of its log.
use Rattle.std.specs.Prelude.{◌≡◌, ◌⊎◌, Bool, List, [], ◌∷◌, ◌++◌, Option, Result}
use Rattle.smk_world.specs.declared.event.Event.{Event}
use Rattle.smk_world.specs.World.{World, IsFormed, after, run}
use Rattle.smk_world.specs.Devices.{AreLooks}
use Rattle.smk_world.specs.Runs.{Follows}
use Rattle.smk_world.specs.Trees.{Act}
use Rattle.smk_plan.specs.States.{Plan}
use Rattle.smk_keep.specs.declared.fault.KeepFault.{KeepFault}
use Rattle.smk_report.specs.declared.fault.Fault.{Fault}
use Rattle.smk_drive.specs.Moments.{IsMoment, Moment, Rules, begun_after}
use Rattle.smk_drive_course.specs.Refusals.{RunRefuses}
use Rattle.smk_drive_course.specs.Stands.{IsPlanned, IsReplanned, Refuses, Stand, first_stand, lists}
use Rattle.smk_drive_course.specs.Steps.{Deed, HasSpent}
use Rattle.smk_drive_course.specs.Driven.{IsOpening}

-- The moment is that of the stand: the same jobs have begun, the same plan is in force, and its chain began with the listings of the plans before, or, where
-- the folder was looked at meanwhile, with those of all plans.
pub record IsStandOf (s : Stand) (m : Moment) : Type 0 where
  pub begun : m.begun ≡ s.begun
  pub plan : m.plan ≡ s.plan
  pub listed : m.lists ≡ lists s
  pub since : (m.from ≡ s.from) ⊎ (m.from ≡ lists s)

-- The first stand is the moment at the entry, and it is the moment once the folder is opened.
abbrev pub FirstIsMoment : Type 0
FirstIsMoment =
    (act : Act) (rules : Rules) (entry : World) (plan : Option Plan) (opened : Result (Unit {0}) KeepFault) (es : List Event) (m : Moment) →
    IsFormed entry →
    IsPlanned rules (first_stand plan) entry →
    IsOpening rules entry opened es → Follows act entry es → IsMoment rules entry es m → IsStandOf (first_stand plan) m

-- Looks leave it.
abbrev pub LooksKeepStands : Type 0
LooksKeepStands =
    (act : Act) (rules : Rules) (entry : World) (s : Stand) (before looks : List Event) (failure : Bool) (m n : Moment) →
    IsFormed entry →
    AreLooks failure looks →
    Follows act (run entry before) looks → IsMoment rules entry before m → IsStandOf s m → IsMoment rules entry (before ++ looks) n → IsStandOf s n

-- What is refused at the entry, is the first that the run refuses.
abbrev pub RefusedAtEntry : Type 0
RefusedAtEntry =
    (rules : Rules) (entry : World) (plan : Option Plan) (log : List Event) (f : Fault) →
    IsPlanned rules (first_stand plan) entry → Refuses rules entry (first_stand plan) entry [] f → RunRefuses rules entry log f

-- Where spent outputs were removed from the stand of a moment on, the stand after it is that of the moment after it.
abbrev pub SpendingIsMoment : Type 0
SpendingIsMoment =
    (act : Act) (rules : Rules) (entry : World) (s t : Stand) (before es : List Event) (deeds : List Deed) (m n : Moment) →
    IsFormed entry →
    HasSpent rules entry s (run entry before) before es deeds t →
    Follows act (run entry before) es → IsMoment rules entry before m → IsStandOf s m → IsMoment rules entry (before ++ es) n → IsStandOf t n

-- After this event of the moment of a stand the jobs of another stand have begun, which has the same plan and listings.
pub record HasBegunAs (rules : Rules) (entry : World) (m : Moment) (e : Event) (s u : Stand) : Type 0 where
  pub begun : begun_after rules entry m e ≡ u.begun
  pub plan : u.plan ≡ s.plan
  pub since : u.from ≡ s.from
  pub listed : lists u ≡ lists s

-- Where the plan of that stand is made anew then, what comes of it is the stand of the moment after the event.
abbrev pub ReplanningIsMoment : Type 0
ReplanningIsMoment =
    (rules : Rules) (entry : World) (before : List Event) (e : Event) (s u t : Stand) (m n : Moment) →
    IsFormed entry →
    IsMoment rules entry before m →
    IsStandOf s m →
    HasBegunAs rules entry m e s u → IsReplanned rules u (after m.world e) t → IsMoment rules entry (before ++ e ∷ []) n → IsStandOf t n
