-- A job that is to begin has records that can be written.
use Rattle.std.specs.Prelude.{ℕ, List}
use Rattle.smk_world.specs.declared.event.Event.{Event}
use Rattle.smk_world.specs.World.{World}
use Rattle.smk_record.specs.declared.record.Stamp.{Stamp}
use Rattle.smk_flow.specs.declared.job.Job.{Job}
use Rattle.smk_trigger.specs.declared.reason.State.{State}
use Rattle.smk_job.specs.Jobs.{underway}
use Rattle.smk_drive.specs.Moments.{Rules, seen}
use Rattle.smk_drive_course.specs.Stands.{Stand}
use Rattle.smk_drive_course.specs.Steps.{IsToBegin}
use Rattle.smk_laws_turns.specs.Hubs.{IsOurs, IsRecordable}

-- The records of a job that is to begin can be written, and their stamps have the times of the sources that the run found.
abbrev pub BegunIsRecordable : Type 0
BegunIsRecordable =
    (rules : Rules) (entry : World) (jobs : List Job) (s : Stand) (w : World) (before : List Event) (e : Job × State) (made number : ℕ) (stamps : List Stamp) →
    IsToBegin rules entry s w before e made stamps →
    IsOurs rules entry jobs w → IsRecordable (seen rules entry) (underway e.0.recipe e.0.logs stamps made number)
