-- Where all jobs of a last plan are Clean nothing is left for the next call, whose chain of plans begins from no listing.
use Rattle.std.specs.Prelude.{◌≡◌, List, [], map, Some, IsTrue}
use Rattle.smk_world.specs.Trees.{IsIn, Path}
use Rattle.smk_flow.specs.declared.job.Job.{Job}
use Rattle.smk_flow.specs.Flows.{Flow}
use Rattle.smk_store.specs.Images.{Image}
use Rattle.smk_chain.specs.Derive.{Listings, listing}
use Rattle.smk_trigger.specs.declared.reason.State.TheVariants.{Clean}
use Rattle.smk_pick.specs.declared.settings.Force.TheVariants.{No}
use Rattle.smk_pick.specs.declared.settings.Settings.{Settings}
use Rattle.smk_plan.specs.States.{LastPlan, Plan, awaited, files_listed, is_at_hand, is_current, nothing_done}
use Rattle.smk_laws_plan.specs.Current.{IsComplete}

-- The plan is the last one of a chain that began from some listings, and has each job Clean. A listing of a directory that it awaits and that is at hand is
-- that of the directory's record.
pub record IsDone (flow : Flow) (image : Image) (settings : Settings) (L : Listings) (plan : Plan) : Type 0 where
  pub last : LastPlan flow image settings nothing_done L plan
  pub clean : plan.states ≡ map (λ (j : Job). Clean) plan.jobs
  pub listed :
      (d : Path) (files : List Path) →
      IsIn (awaited image settings nothing_done plan) d →
      IsTrue (is_at_hand image settings nothing_done plan d) → listing plan.lists d ≡ Some files → files ≡ files_listed image d

-- The chain that begins from no listing has a last plan, which has each job Clean; and a target that is current by the other plan is so by it.
pub record StaysDone (flow : Flow) (image : Image) (settings : Settings) (plan : Plan) : Type 0 where
  pub next : Plan
  pub last : LastPlan flow image settings nothing_done [] next
  pub clean : next.states ≡ map (λ (j : Job). Clean) next.jobs
  pub current :
      (p : Path) →
      IsIn settings.targets p →
      IsTrue (is_current image settings nothing_done plan p) → IsTrue (is_current image settings nothing_done next p)

-- So it is in each complete image where no job is forced.
abbrev pub DoneStaysDone : Type 0
DoneStaysDone =
    (flow : Flow) (image : Image) (settings : Settings) (L : Listings) (plan : Plan) →
    IsComplete image → settings.force ≡ No → IsDone flow image settings L plan → StaysDone flow image settings plan
