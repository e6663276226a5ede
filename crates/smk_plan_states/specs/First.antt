-- The first pass over a plan: states but for what only jobs that are to run want back.
use Rattle.std.specs.Prelude.{◌≡◌, Bool, true, ◌&&◌, ◌||◌, not, List, ◌++◌, map, filter, bytes_eq, if◌then◌else◌, Option}
use Rattle.std.specs.List.{list_any}
use Rattle.smk_world.specs.World.{out_paths}
use Rattle.smk_world.specs.Trees.{Path, among, kind_in}
use Rattle.smk_flow.specs.declared.job.Job.{Job}
use Rattle.smk_store.specs.Images.{Image, is_whole}
use Rattle.smk_chain.specs.declared.jobs.Jobs.{Jobs}
use Rattle.smk_chain.specs.Derive.{distinct}
use Rattle.smk_trigger.specs.declared.reason.Reason.{Reason}
use Rattle.smk_trigger.specs.declared.reason.Reason.TheVariants.{Upstream, Forced}
use Rattle.smk_trigger.specs.declared.reason.State.{State}
use Rattle.smk_trigger.specs.declared.reason.State.TheVariants.{Open, Dirty, Restore, Clean}
use Rattle.smk_trigger.specs.Reasons.{when}
use Rattle.smk_pick.specs.declared.settings.Settings.{Settings}
use Rattle.smk_plan.specs.States.{Plan, Progress, by_reasons, while_running, awaited, is_input, is_temporary, is_open_now, is_read_now, kept_state, reasons}
use Rattle.smk_plan_states.specs.Shapes.{Parts, Paths, Site}
use Rattle.smk_plan_states.specs.Served.{AreServed}
use Rattle.smk_plan_states.specs.Judged.{Judging, with_states, began, AreStates}
use Rattle.smk_plan_states.specs.Parts.{parts_of}
use Rattle.smk_plan_states.specs.Paths.{ArePaths, site_at}
use Rattle.smk_plan_states.specs.Passes.{opens, is_dirty_told}
use Rattle.smk_plan_states.specs.InUse.{in_use_told}

module _ (image : Image) (settings : Settings) (progress : Progress) (plan : Plan) where
  -- wanted back whatever jobs are to run
  abbrev pub is_always_wanted : Job → Path → Bool
  is_always_wanted j p =
      among settings.targets p
      || (among (awaited image settings progress plan) p || (not (is_temporary image settings progress plan j p) && is_input plan (λ e. true) p))

  -- some output isn't whole and is wanted back whatever jobs are to run
  abbrev pub is_kept : Job → Bool
  is_kept j = list_any (λ p. not (is_whole image p (kind_in j.recipe p)) && is_always_wanted j p) (out_paths j.recipe)

  -- a Restore whatever jobs are to run
  abbrev pub is_restored_first : Job → Bool
  is_restored_first j = is_kept j && not (is_read_now image settings progress plan j)

  -- the state by the table, but Clean where only jobs that are to run want something back
  abbrev pub first_by_table : Job → State
  first_by_table j =
      if is_open_now image settings progress plan j then Open else by_reasons (reasons image settings progress plan j) (is_restored_first j)

  -- the same, but for a job whose child runs
  abbrev pub first_state : Job → State
  first_state j = while_running (kept_state image settings progress plan j) (first_by_table j)

-- the same by what the passes find
abbrev pub first_told : List State → (Path → Option Site) → (Path → Bool) → Bool → Parts → List Reason → Bool → State
first_told states sites listed kept m alone forced =
    if opens states sites listed m then Open
    else by_reasons (alone ++ (map Upstream (filter (is_dirty_told states sites) (distinct bytes_eq m.inputs)) ++ when forced Forced)) kept

-- Clean, unless what it made is wanted
abbrev pub unless_needed : Bool → State → State
unless_needed needed Open = Open
unless_needed needed (Dirty reasons) = Dirty reasons
unless_needed needed Restore = Restore
unless_needed needed Clean = if needed then Restore else Clean

-- These are the states of the jobs by the table, and what is kept of paths and jobs is so: also of which jobs children run, and from which
-- of them these read.
pub record IsSolved (at : Judging) (jobs : Jobs) (states : List State) (kept : Paths) (split : List Parts) (used : Path → Bool) : Type 0 where
  pub served : AreServed jobs at.settings.targets
  pub solved : AreStates at jobs states
  pub paths : ArePaths at.image jobs at.settings.targets kept
  pub parts : split ≡ map (parts_of at.image) jobs.jobs
  pub in_use : (name : Path) → used name ≡ in_use_told (site_at at.image jobs) (map (parts_of at.image) jobs.jobs) (began at jobs) name

-- the states of the first pass, where these are those of the table
abbrev pub first_states : Judging → Jobs → List State → List State
first_states at jobs states = map (first_state at.image at.settings at.progress (with_states jobs states)) jobs.jobs
