-- How a run grows at a rest: round by round the plan is made anew with the listings that have become known, until none is left.
use Rattle.std.specs.Prelude.{◌≡◌, ◌≢◌, true, false, List, [], ◌++◌, None, Some}
use Rattle.smk_world.specs.declared.event.Event.{Event}
use Rattle.smk_world.specs.Devices.{AreLooks}
use Rattle.smk_world.specs.World.{World, run}
use Rattle.smk_flow.specs.Flows.{Flow}
use Rattle.smk_store.specs.Stores.{Known}
use Rattle.smk_chain.specs.declared.jobs.Jobs.{Jobs}
use Rattle.smk_pick.specs.declared.settings.Settings.{Settings}
use Rattle.smk_plan.specs.declared.fault.PlanFault.{PlanFault}
use Rattle.smk_plan.specs.declared.seen.Sight.{Sight}
use Rattle.smk_plan_table.specs.Plans.{fault_in}
use Rattle.smk_plan_live.specs.Changes.{HasGrown, IsRefusedGrown}
use Rattle.smk_plan_live.specs.Lives.{IsLive}
use Rattle.smk_report.specs.declared.fault.Fault.{Fault}
use Rattle.smk_report.specs.declared.fault.Fault.TheVariants as fault
use Rattle.smk_drive.specs.Moments.{Rules}
use Rattle.smk_drive_step.specs.Crews.{is_device}
use Rattle.smk_drive_first.specs.Opening.{AreRules}
use Rattle.smk_laws_turns.specs.Growing.{IsBeside, IsMoreOf, IsMoreRefusal}
use Rattle.smk_laws_turns.specs.Resting.{refused_command}
use Rattle.smk_laws_turns.specs.Hubs.{Parts}
use Rattle.smk_laws_turns.specs.Turning.{faulted}
use Rattle.smk_laws_turns.specs.Moving.{moved}

module _ (flow : Flow) (settings : Settings) where
  -- by whichever rules the run goes, this is what its plan is to grow by, where the folder can be looked at beside the children
  abbrev pub IsMoreFor : World → Parts → Jobs → List Known → List Sight → Type 0
  IsMoreFor w h jobs store fresh =
      (rules : Rules) → AreRules flow settings rules → IsBeside rules.read w → IsMoreOf rules.read flow settings w h.live jobs store fresh

  -- The plan has grown by one round, and the children have the new numbers of their jobs.
  pub record IsGrownBy (w : World) (h k : Parts) : Type 0 where
    pub jobs : Jobs
    pub store : List Known
    pub fresh : List Sight
    pub told : IsMoreFor w h jobs store fresh
    pub grown : HasGrown jobs store fresh h.live k.live
    pub alive : IsLive k.live
    pub is : k ≡ record h { live = k.live; places = moved h.live.base.jobs.jobs jobs.jobs h.places }

  -- The round is refused: its derivation, or its plan.
  pub data IsRefusedBy (w : World) (h : Parts) (f : Fault) : Type 0 where
    OfJobs : ((rules : Rules) → AreRules flow settings rules → IsBeside rules.read w → IsMoreRefusal rules.read flow settings w h.live f) → IsRefusedBy w h f
    OfPlan :
        (jobs : Jobs) (store : List Known) (fresh : List Sight) (refusal : PlanFault) →
        IsMoreFor w h jobs store fresh →
        IsRefusedGrown h.live.settings jobs store fresh h.live.base refusal → f ≡ fault_in flow refusal → IsRefusedBy w h f

  -- What the run keeps grows by rounds, in which the folder is looked at, until no directory has become known; or a round or the commands of a plan are
  -- refused, a look fails, or memory is wanting.
  pub data HasGrownOn : World → Parts → Parts → List Event → Type 0 where
    IsWhole : (w : World) (h : Parts) → refused_command flow settings h.live ≡ None → h.live.plan.known ≡ [] → HasGrownOn w h h []
    Grows :
        (w : World) (h m k : Parts) (looks more : List Event) →
        refused_command flow settings h.live ≡ None →
        h.live.plan.known ≢ [] →
        AreLooks false looks → IsGrownBy w h m → HasGrownOn (run w looks) m k more → HasGrownOn w h k (looks ++ more)
    IsRefused :
        (w : World) (h : Parts) (f : Fault) (looks : List Event) →
        is_device f ≡ false →
        refused_command flow settings h.live ≡ None →
        h.live.plan.known ≢ [] → AreLooks false looks → IsRefusedBy w h f → HasGrownOn w h (faulted f h) looks
    IsBarred : (w : World) (h : Parts) (f : Fault) → is_device f ≡ false → refused_command flow settings h.live ≡ Some f → HasGrownOn w h (faulted f h) []
    LookFails : (w : World) (h : Parts) (looks : List Event) → AreLooks true looks → HasGrownOn w h (faulted fault.Device h) looks
    LacksMemory : (w : World) (h : Parts) (looks : List Event) → AreLooks false looks → HasGrownOn w h (faulted fault.OutOfMemory h) looks
