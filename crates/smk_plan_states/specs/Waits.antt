-- Awaited directories, and whether they are ready.
use Rattle.std.specs.Prelude.{Bool, ◌&&◌, List, [], ◌++◌, map, Option, Some, None, option_map}
use Rattle.std.specs.List.{flat_map}
use Rattle.smk_world.specs.Trees.{Path}
use Rattle.smk_trigger.specs.declared.reason.State.{State}
use Rattle.smk_trigger.specs.JobStates.{is_clean}
use Rattle.smk_plan.specs.States.{test_some, none_or_one}
use Rattle.smk_plan_states.specs.Shapes.{Directory, Parts, Wait, Site}
use Rattle.smk_plan_states.specs.Passes.{state_at}

-- a job makes it that is Clean, and it is whole
abbrev pub ready_told : List State → Option Site → Bool
ready_told states site = test_some (λ (s : Site). test_some is_clean (state_at states s.job) && s.whole) site

-- of these directories, by this test
abbrev pub waits_of : (Path → Bool) → List Path → List Wait
waits_of ready paths = map (λ d. record { path = d; ready = ready d }) paths

abbrev pub site_waits : List State → Site → List Wait
site_waits states s =
    none_or_one (option_map (λ (d : Directory). record { path = d.path; ready = test_some is_clean (state_at states s.job) && d.whole }) s.over)

-- the directory output over a path, by what is known of the path
abbrev pub over_waits : List State → Option Site → List Wait
over_waits states None = []
over_waits states (Some s) = site_waits states s

module _ (states : List State) (sites : Path → Option Site) where
  -- those that a job awaits
  abbrev pub part_waits : Parts → List Wait
  part_waits m = waits_of (λ d. ready_told states (sites d)) m.gathers ++ flat_map (λ q. over_waits states (sites q)) (m.inputs ++ m.gathers)

  -- those that jobs await, and those of which a target is a member
  abbrev pub waits_told : List Parts → List Path → List Wait
  waits_told parts targets = flat_map part_waits parts ++ flat_map (λ q. over_waits states (sites q)) targets
