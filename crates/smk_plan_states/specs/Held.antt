-- Jobs that are held back, by what is found of their parts and states.
use Rattle.std.specs.Prelude.{Bool, ◌&&◌, ◌||◌, List, Option, is_none}
use Rattle.std.specs.List.{list_any, zip}
use Rattle.smk_world.specs.Trees.{Path, among}
use Rattle.smk_trigger.specs.declared.reason.State.{State}
use Rattle.smk_trigger.specs.JobStates.{is_clean, is_to_run}
use Rattle.smk_plan_states.specs.Shapes.{Parts, Paths}
use Rattle.smk_plan_states.specs.Passes.{is_kept_told}
use Rattle.smk_plan_states.specs.InUse.{in_use_told, is_in_use_told}

-- the job reads the path and is to run
abbrev pub is_needed_by : Path → Parts × State → Bool
is_needed_by q e = among e.0.inputs q && is_to_run e.1

-- a job that is to run reads the path
abbrev pub needed_told : List Parts → List State → Path → Bool
needed_told parts states q = list_any (is_needed_by q) (zip parts states)

-- some output that isn't whole is wanted back, whatever jobs run
abbrev pub is_kept_in : Paths → Parts → Bool
is_kept_in paths m = is_kept_told (λ q. paths.targets q) (λ q. paths.awaited q) (λ q. paths.read q) m

-- A job whose child doesn't run counts as Clean; a child reads what it made, and an output that isn't whole is wanted back.
abbrev pub is_held_told : (Parts → Bool) → (Path → Bool) → (Path → Bool) → Parts × (State × Option State) → Bool
is_held_told kept needed used e =
    (is_none e.1.1 && is_clean e.1.0) && (is_in_use_told used e.0 && (list_any needed e.0.gone || kept e.0))

-- so is some job of these parts and states
abbrev pub any_held_told : Paths → List Parts → List State → List (Option State) → Bool
any_held_told paths parts states running =
    list_any
    (is_held_told (is_kept_in paths) (needed_told parts states) (in_use_told (λ q. paths.sites q) parts running))
    (zip parts (zip states running))
