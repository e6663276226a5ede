-- How a job ended that was closed, by what stands as its child has ended.
use Rattle.std.specs.Prelude.{◌≡◌, List}
use Rattle.std.specs.List.{list_all}
use Rattle.smk_world.specs.declared.event.Event.{Event}
use Rattle.smk_world.specs.Folders.{IsTree}
use Rattle.smk_world.specs.Trees.{is_path_text}
use Rattle.smk_world.specs.World.{IsFormed, World, out_paths}
use Rattle.smk_flow.specs.declared.job.Job.{Job}
use Rattle.smk_job.specs.Jobs.{Underway}
use Rattle.smk_report.specs.Lines as report
use Rattle.smk_run.specs.declared.ending.Ending.{Ending as End}
use Rattle.smk_run.specs.declared.ending.Ending.TheVariants.{BadMember, Good, NoOutput, Status, WrongKind}
use Rattle.smk_run.specs.Closings.{IsClosedBy}
use Rattle.smk_drive.specs.Moments.{Rules, ending, seen}
use Rattle.std.specs.Prelude.{ℕ, true}

-- how the job ended, as it is told
abbrev pub told_end : End → report.Ending
told_end Good = report.Good
told_end (Status n) = report.Status n
told_end (NoOutput p) = report.NoOutput p
told_end (WrongKind p) = report.WrongKind p
told_end (BadMember p) = report.BadMember p

-- A job that was closed so ended so, by the status of its child and by what stood as it had ended.
abbrev pub EndsAsClosed : Type 0
EndsAsClosed =
    (rules : Rules) (w : World) (j : Job) (g : Underway) (how : End) (status : ℕ) (es : List Event) →
    IsFormed w →
    IsTree w →
    j.recipe ≡ g.recipe → list_all is_path_text (out_paths j.recipe) ≡ true → IsClosedBy g how status w es → ending (seen rules w) j status ≡ told_end how
