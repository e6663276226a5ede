-- Calls of one job between two rests.
use Rattle.std.specs.Prelude.{◌≡◌, true, false, List, [], ◌∷◌, ◌++◌, Some}
use Rattle.smk_world.specs.declared.event.Event.{Event}
use Rattle.smk_world.specs.World.{World, IsFormed, after, run}
use Rattle.smk_world.specs.Trees.{IsIn}
use Rattle.smk_flow.specs.declared.job.Job.{Job}
use Rattle.smk_store.specs.Images.{Image}
use Rattle.smk_plan.specs.States.{IsPlan, Plan, Progress}
use Rattle.smk_laws_plan.specs.Current.{IsComplete}
use Rattle.smk_drive.specs.Moments.{Begun, IsMoment, Moment, Rules, has_begun, is_rest}
use Rattle.smk_drive.specs.Lawful.{is_wait}
use Rattle.smk_drive_course.specs.Stands.{Stand, moment_of}
use Rattle.smk_laws_moments.specs.Owning.{IsOwnCall}
use Rattle.smk_laws_moments.specs.Standing.{IsStandOf}

-- These are calls of the job, and no waits, and after none of them there is a rest.
abbrev pub AreBetweenRests : Job → List Begun → World → List Event → Type 0
AreBetweenRests j begun w [] = Unit {0}
AreBetweenRests j begun w (e ∷ es) =
    IsOwnCall j w e.call × (is_wait e.call ≡ false) × (is_rest (after w e) begun ≡ false) × AreBetweenRests j begun (after w e) es

-- Such calls of a job of the plan that has begun leave what stands are moments.
abbrev pub BetweenRestsIsMoment : Type 0
BetweenRestsIsMoment =
    (rules : Rules) (image : Image) (progress : Progress) (plan : Plan) (entry : World) (s : Stand) (before es : List Event) (j : Job) (m n : Moment) →
    IsFormed entry →
    IsComplete image →
    IsPlan rules.flow image rules.settings progress plan →
    s.plan ≡ Some plan →
    IsIn plan.jobs j →
    has_begun rules (moment_of s (run entry before) before) j ≡ true →
    AreBetweenRests j s.begun (run entry before) es →
    IsMoment rules entry before m → IsStandOf s m → IsMoment rules entry (before ++ es) n → IsStandOf s n
