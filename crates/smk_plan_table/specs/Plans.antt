-- What a plan tells of an image of the folder, and what is refused of it.
use Rattle.std.specs.Prelude.{◌≡◌, true, Bool, not, List, [], ◌∷◌, map, filter, bytes_eq}
use Rattle.std.specs.List.{flat_map, list_any, AllZip}
use Rattle.smk_world.specs.Trees.{Path, Each, among}
use Rattle.smk_flow.specs.declared.job.Job.{Job}
use Rattle.smk_flow.specs.Flows.{Flow, rule_name}
use Rattle.smk_store.specs.Images.{Image, is_source}
use Rattle.smk_store.specs.Stores.{Known}
use Rattle.smk_store.specs.Loading.{IsStoreOf}
use Rattle.smk_chain.specs.declared.jobs.Jobs.{Jobs}
use Rattle.smk_chain.specs.Derive.{Listings}
use Rattle.smk_trigger.specs.declared.reason.State.{State}
use Rattle.smk_pick.specs.declared.settings.Settings.{Settings}
use Rattle.smk_plan.specs.declared.plan.Plan.{Plan as Told}
use Rattle.smk_plan.specs.declared.fault.PlanFault.{PlanFault}
use Rattle.smk_plan.specs.declared.fault.PlanFault.TheVariants as refused
use Rattle.smk_plan.specs.declared.seen.Sight.{Sight}
use Rattle.smk_plan.specs.Sights.{IsSeenOf}
use Rattle.smk_plan.specs.Summed.{AreSummed}
use Rattle.smk_plan.specs.States.{Plan, Progress, job_path, is_current, new_listings}
use Rattle.smk_report.specs.declared.fault.Fault.{Fault}
use Rattle.smk_report.specs.declared.fault.Fault.TheVariants as fault
use Rattle.smk_drive.specs.Moments.{Rules}
use Rattle.smk_drive.specs.Refusals.{incomplete, guarded, above_limit, ahead, refused_of}
use Rattle.smk_plan_facts.specs.Facts.{having_run, told_sources, TellSources, AreMade, NamesAll, HasOwnRecords}
use Rattle.smk_plan_states.specs.Served.{AreServed}
use Rattle.smk_plan_states.specs.declared.rows.Rows.{Rows}
use Rattle.smk_plan_states.specs.declared.table.Table.{Table}
use Rattle.smk_plan_states.specs.Judged.{Judging, AreStates, with_states}
use Rattle.smk_plan_states.specs.Rows.{AreRowsAt}
use Rattle.smk_plan_states.specs.Standing.{states_by}
use Rattle.smk_plan_states.specs.Stays.{Told as TellsRows}
use Rattle.smk_plan_table.specs.declared.planning.Ranked.{Ranked}
use Rattle.smk_plan_table.specs.declared.suspects.Suspect.{Suspect}
use Rattle.smk_plan_table.specs.Parts.{IsSuspectOf}

-- ## What a plan is made from

-- each target that is a source is told of as one
abbrev pub TellTargets : Image → Jobs → List Path → Type 0
TellTargets image jobs targets = Each (λ t. is_source image t ≡ true → among (told_sources jobs.makers) t ≡ true) targets

-- The store, what was seen, and what is told of what makes each path are as the image has it; and each source whose SHA-256 is needed was seen with it.
pub record Agree (image : Image) (jobs : Jobs) (store : List Known) (seen : List Sight) (targets : List Path) : Type 0 where
  pub named : NamesAll image
  pub recorded : HasOwnRecords image
  pub stored : IsStoreOf image store
  pub sighted : IsSeenOf image jobs seen
  pub summed : AreSummed image jobs seen
  pub served : AreServed jobs targets
  pub made : AreMade jobs
  -- each input, and each target, that is a source is told of as one
  pub read : TellSources image jobs
  pub asked : TellTargets image jobs targets

-- the jobs are judged by this image and these settings where these have begun, and no child runs
abbrev pub at_rest : Image → Settings → List Path → Judging
at_rest image settings ran = record { image = image; settings = settings; progress = having_run ran }

-- Wherever the jobs are judged by these settings and an image that has what is known and was seen.
abbrev pub WhereAgreed : Jobs → List Known → List Sight → Settings → (Judging → Type 0) → Type 0
WhereAgreed jobs store seen settings Q =
    (image : Image) (progress : Progress) → Agree image jobs store seen settings.targets → Q (record { image = image; settings = settings; progress = progress })

-- What a plan is made of is so: the rows of the moment tell what is so there, these flags which of the jobs have begun, and of no job is anything refused that
-- isn't suspected.
pub record IsGiven
    (at : Judging) (jobs : Jobs) (store : List Known) (seen : List Sight) (rows : Rows) (flags : List Bool) (suspects : List Suspect) : Type 0 where
  pub right : AreRowsAt at jobs rows
  pub begun : flags ≡ map (λ (j : Job). among at.progress.begun (job_path j)) jobs.jobs
  pub doubted : AllZip (IsSuspectOf store seen at.settings.bounds) jobs.jobs suspects

-- a child of the job runs
abbrev pub runs_at : Progress → Job → Bool
runs_at progress j = list_any (λ (e : Path × State). bytes_eq e.0 (job_path j)) progress.running

-- those of the jobs whose child doesn't run
abbrev pub idle_at : Progress → List Job → List Job
idle_at progress jobs = filter (λ j. not (runs_at progress j)) jobs

-- which of the jobs have begun
abbrev pub begun_at : Progress → List Job → List Bool
begun_at progress jobs = map (λ (j : Job). among progress.begun (job_path j)) jobs

-- ## What a plan tells

module _ (at : Judging) (jobs : Jobs) (states : List State) where
  -- for each target whether it is current, where the jobs have these states
  abbrev pub targets_current : List Bool
  targets_current = map (is_current at.image at.settings at.progress (with_states jobs states)) at.settings.targets

  -- the listings that have become known
  abbrev pub listings_known : Listings
  listings_known = new_listings at.image at.settings at.progress (with_states jobs states)

-- nothing is refused of the plan, but maybe of commands
pub record IsUnrefused (rules : Rules) (image : Image) (progress : Progress) (plan : Plan) : Type 0 where
  pub complete : incomplete rules image progress plan ≡ []
  pub unguarded : guarded rules image progress plan ≡ []
  pub within : flat_map (above_limit rules image progress plan) (ahead rules image progress plan) ≡ []

-- By what the jobs are judged: the states are those of the table, the targets are current and the listings have become known by them, and nothing is
-- refused of the plan.
pub record HasMadeAt (at : Judging) (jobs : Jobs) (told : Told) : Type 0 where
  pub states : AreStates at jobs told.states
  pub current : told.current ≡ targets_current at jobs told.states
  pub known : told.known ≡ listings_known at jobs told.states
  pub unrefused : (rules : Rules) → rules.settings ≡ at.settings → IsUnrefused rules at.image at.progress (with_states jobs told.states)

-- the plan by ranks, with the states that come of what is told of the jobs
abbrev pub plan_by : Table → TellsRows → Ranked → Told
plan_by table rows made = record { states = states_by table rows made.ranking; current = made.current; known = made.known }

-- the same where these have begun and none runs
abbrev pub HasMade : Image → Settings → List Path → Jobs → Told → Type 0
HasMade image settings ran jobs told = HasMadeAt (at_rest image settings ran) jobs told

-- ## What is refused

-- the refusal as a fault, which names the rule
abbrev pub fault_in : Flow → PlanFault → Fault
fault_in flow (refused.Incomplete paths) = fault.Incomplete paths
fault_in flow (refused.Protected p) = fault.Protected p
fault_in flow (refused.AboveLimit rule p name asked bound) = fault.AboveLimit (rule_name flow rule) p name asked bound
fault_in flow refused.OutOfMemory = fault.OutOfMemory

-- By what the jobs are judged: the plan whose states are those of the table is refused, and this is the first refusal.
pub record IsRefusedAt (at : Judging) (jobs : Jobs) (told : PlanFault) : Type 0 where
  pub states : List State
  pub table : AreStates at jobs states
  pub first :
      (rules : Rules) → rules.settings ≡ at.settings →
      (rest : List Fault) × (refused_of rules at.image at.progress (with_states jobs states) ≡ fault_in rules.flow told ∷ rest)

-- the same where these have begun and none runs
abbrev pub IsRefused : Image → Settings → List Path → Jobs → PlanFault → Type 0
IsRefused image settings ran jobs told = IsRefusedAt (at_rest image settings ran) jobs told
