-- What a preview tells: the last plan of the chain, or the first refusal of it.
use Rattle.std.specs.Prelude.{◌≡◌, ℕ, true, List, [], map, Option, Result, Ok, Err}
use Rattle.smk_flow.specs.Flows.{Flow}
use Rattle.smk_format.specs.Commands.{missing, command}
use Rattle.smk_record.specs.declared.record.Record.{Record}
use Rattle.smk_store.specs.Images.{Image}
use Rattle.smk_store.specs.Loading.{IsStoreOf}
use Rattle.smk_pick.specs.declared.settings.Settings.{Settings}
use Rattle.smk_plan.specs.States.{Plan, nothing_done, is_current, LastPlan}
use Rattle.smk_report.specs.declared.fault.Fault.{Fault}
use Rattle.smk_drive.specs.Moments.{Rules}
use Rattle.smk_drive.specs.Refusals.{refused_of, ChainRefuses}
use Rattle.smk_plan_states.specs.Served.{AreServed}
use Rattle.smk_plan_preview.specs.declared.previewing.Previewed.{Previewed}
use Rattle.smk_plan_preview.specs.Faults.{is_told}

-- the plan that is told
abbrev pub plan_of : Previewed → Plan
plan_of p = record { lists = p.jobs.lists; jobs = p.jobs.jobs; states = p.plan.states }

-- what a preview goes by: it takes no lock
abbrev pub rules_for : (List ℕ → Option Record) → Flow → Settings → Rules
rules_for read flow settings = record { flow = flow; settings = settings; nolock = true; read = read; missing = missing; command = command }

-- The store is that of the folder, the plan is the last of the chain that begins with no listings, and nothing is refused of it.
pub record IsPreviewed (read : List ℕ → Option Record) (flow : Flow) (settings : Settings) (image : Image) (told : Previewed) : Type 0 where
  pub stored : IsStoreOf image told.store
  pub last : LastPlan flow image settings nothing_done [] (plan_of told)
  pub current : told.plan.current ≡ map (is_current image settings nothing_done (plan_of told)) settings.targets
  pub unrefused : refused_of (rules_for read flow settings) image nothing_done (plan_of told) ≡ []
  -- which job makes what the jobs and targets want is told rightly
  pub served : AreServed told.jobs settings.targets

-- the last plan, or the first refusal of the chain; unless the device failed or memory was short
abbrev pub HasPreviewed : (List ℕ → Option Record) → Flow → Settings → Image → Result Previewed Fault → Type 0
HasPreviewed read flow settings image (Ok told) = IsPreviewed read flow settings image told
HasPreviewed read flow settings image (Err f) = is_told f ≡ true → ChainRefuses (rules_for read flow settings) image nothing_done [] f
