-- The numbers that the jobs of children get.
use Rattle.std.specs.Prelude.{ℕ, List, Option, Some, None}
use Rattle.std.specs.List.{slice_get}
use Rattle.smk_flow.specs.declared.job.Job.{Job}
use Rattle.smk_drive_step.specs.declared.children.Child.{Child}
use Rattle.smk_laws_turns.specs.Moving.{new_number}

-- the number that the job of the child in the place has among the new jobs
abbrev pub place_number : List Job → List Job → Option Child → ℕ
place_number old new None = 0
place_number old new (Some c) = new_number new (slice_get old c.job)
