-- How far the jobs of a plan have come.
use Rattle.std.specs.Prelude.{Bool, true, false, List, [], ◌∷◌, ◌++◌, map, bytes_eq, if◌then◌else◌, Option, Some, None, option_map}
use Rattle.std.specs.List.{find}
use Rattle.smk_world.specs.Trees.{Path}
use Rattle.smk_flow.specs.declared.job.Job.{Job}
use Rattle.smk_trigger.specs.declared.reason.State.{State}
use Rattle.smk_plan.specs.States.{Progress, job_path}
use Rattle.smk_plan_live.specs.declared.children.Child.{Child}
use Rattle.smk_plan_live.specs.declared.phase.Phase.{Phase}
use Rattle.smk_plan_live.specs.declared.phase.Phase.TheVariants.{Waiting, Running, Closed}

abbrev pub has_begun : Phase → Bool
has_begun Waiting = false
has_begun Running = true
has_begun Closed = true

-- the first outputs of the jobs that have begun
abbrev pub begun_in : List Job → List Phase → List Path
begun_in [] phases = []
begun_in (j ∷ jobs) [] = []
begun_in (j ∷ jobs) (p ∷ phases) = (if has_begun p then job_path j ∷ [] else []) ++ begun_in jobs phases

-- the job by its first output with the state that it had when it began, where its child runs
abbrev pub child_in : Job → Option State → List Child
child_in j None = []
child_in j (Some s) = record { name = job_path j; state = s } ∷ []

-- the jobs whose child runs
abbrev pub children_in : List Job → List (Option State) → List Child
children_in [] began = []
children_in (j ∷ jobs) [] = []
children_in (j ∷ jobs) (b ∷ began) = child_in j b ++ children_in jobs began

abbrev pub named : Child → Path × State
named c = (c.name, c.state)

abbrev pub running_in : List Job → List (Option State) → List (Path × State)
running_in jobs began = map named (children_in jobs began)

-- what has begun and what runs
abbrev pub progress_in : List Job → List Phase → List (Option State) → Progress
progress_in jobs phases began = record { begun = begun_in jobs phases; running = running_in jobs began }

-- the state that a job with this first output had when it began, where one of these children is its
abbrev pub named_state : List Child → Path → Option State
named_state children n = option_map (λ (c : Child). c.state) (find (λ (c : Child). bytes_eq c.name n) children)
