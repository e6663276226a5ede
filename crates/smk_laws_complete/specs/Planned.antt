-- Where each target has a clean value: what the chain of plans refuses, and what is current once all jobs are Clean.
use Rattle.std.specs.Prelude.{◌≡◌, ◌⊎◌, ℕ, Bool, List, [], IsTrue, is_none}
use Rattle.smk_world.specs.Trees.{Path, Act, Each, IsIn}
use Rattle.smk_pattern.specs.Shapes.{Text}
use Rattle.smk_flow.specs.declared.job.Job.{Job}
use Rattle.smk_flow.specs.Flows.{Flow}
use Rattle.smk_store.specs.Images.{Image}
use Rattle.smk_store.specs.Trust.{Versions, SumsDiffer, none_eased}
use Rattle.smk_store.specs.Soundness.{Sound}
use Rattle.smk_chain.specs.Derive.{Listings}
use Rattle.smk_chain.specs.Mean.{setting_of}
use Rattle.smk_trigger.specs.declared.reason.State.{State}
use Rattle.smk_trigger.specs.JobStates.{is_clean}
use Rattle.smk_pick.specs.declared.settings.Settings.{Settings}
use Rattle.smk_plan.specs.States.{Plan, Progress, LastPlan, is_current}
use Rattle.smk_report.specs.declared.fault.Fault.{Fault}
use Rattle.smk_report.specs.declared.fault.Fault.TheVariants as fault
use Rattle.smk_drive.specs.Moments.{Rules}
use Rattle.smk_drive.specs.Refusals.{ChainRefuses, ClashingChainRefuses}
use Rattle.smk_laws_plan.specs.Current.{IsComplete, HasValidRecords, SoundPlan}
use Rattle.smk_laws_complete.specs.Derived.{GathersAlone, AllHaveValues}

-- What may be refused of the chain of plans from no listing although each target has a clean value: there are too many paths; the jobs
-- of a derivation to which the chain comes clash, with one another or with what is known; or how the folder stands, or what the call
-- allows, is in the way of jobs.
pub data MayStop (rules : Rules) (image : Image) (progress : Progress) : Fault → Type 0 where
  TooMany : (count : ℕ) → MayStop rules image progress (fault.TooManyPaths count)
  Clashing : (f : Fault) → ClashingChainRefuses rules image progress [] f → MayStop rules image progress f
  Incomplete : (paths : List Path) → MayStop rules image progress (fault.Incomplete paths)
  Protected : (path : Path) → MayStop rules image progress (fault.Protected path)
  AboveLimit : (rule : Text) (path : Path) (name : Text) (asked bound : ℕ) → MayStop rules image progress (fault.AboveLimit rule path name asked bound)
  TooLong : (rule : Text) (bytes : ℕ) → MayStop rules image progress (fault.TooLong rule bytes)

-- In an image that is sound for versions of which no two different contents have the same SHA-256, while no child runs, nothing else is refused of the chain of plans that begins from no listing, where each target has a
-- clean value: listings that become known are right.
abbrev pub CleanTargetsArePlanned : Type 0
CleanTargetsArePlanned =
    (rules : Rules) (act : Act) (image : Image) (H : Versions) (progress : Progress) (f : Fault) →
    GathersAlone rules.flow →
    IsComplete image →
    HasValidRecords image →
    SumsDiffer H →
    Sound act H image none_eased →
    progress.running ≡ [] →
    AllHaveValues (setting_of rules.flow act (λ j. is_none (rules.missing j)) image) rules.settings.targets →
    ChainRefuses rules image progress [] f → MayStop rules image progress f

-- In a complete image each chain of plans is refused or has a last plan: each plan but the last one lists something more that stands.
abbrev pub ChainsEnd : Type 0
ChainsEnd =
    (rules : Rules) (image : Image) (progress : Progress) (L : Listings) →
    IsComplete image →
    ((f : Fault) × ChainRefuses rules image progress L f) ⊎ ((plan : Plan) × LastPlan rules.flow image rules.settings progress L plan)

-- Where all jobs of a last plan are Clean in a sound image, each target that has a clean value is current.
abbrev pub CleanPlanIsCurrent : Type 0
CleanPlanIsCurrent =
    (flow : Flow) (act : Act) (has_fields : Job → Bool) (image : Image) (H : Versions) (settings : Settings) (progress : Progress)
    (L : Listings) (plan : Plan) →
    SoundPlan flow act has_fields image H settings progress L plan →
    AllHaveValues (setting_of flow act has_fields image) settings.targets →
    Each (λ (s : State). IsTrue (is_clean s)) plan.states →
    (p : Path) → IsIn settings.targets p → IsTrue (is_current image settings progress plan p)
