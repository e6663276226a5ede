-- The children of a run, once its jobs have other numbers.
use Rattle.std.specs.Prelude.{◌+◌, ◌&&◌, ℕ, Bool, List, [], ◌∷◌, map, length, nat_eq, bytes_eq, if◌then◌else◌, Option, Some, None, option_map}
use Rattle.std.specs.List.{slice_get}
use Rattle.smk_flow.specs.declared.job.Job.{Job}
use Rattle.smk_plan.specs.States.{job_path}
use Rattle.smk_drive_step.specs.declared.children.Child.{Child}

-- they are of one rule, and have the same first output
abbrev pub is_like : Job → Job → Bool
is_like j k = nat_eq j.rule k.rule && bytes_eq (job_path j) (job_path k)

-- the number of the first of these jobs that is like this one; how many there are, where none is
abbrev pub number_like : List Job → Job → ℕ
number_like [] j = 0
number_like (k ∷ ks) j = if is_like j k then 0 else 1 + number_like ks j

abbrev pub new_number : List Job → Option Job → ℕ
new_number jobs None = length jobs
new_number jobs (Some j) = number_like jobs j

-- the child, with the number that its job has among the new ones
abbrev pub moved_child : List Job → List Job → Child → Child
moved_child old new c = record c { job = new_number new (slice_get old c.job) }

abbrev pub moved : List Job → List Job → List (Option Child) → List (Option Child)
moved old new places = map (option_map (moved_child old new)) places
