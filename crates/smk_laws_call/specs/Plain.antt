-- Workflows by which no plan may grow.
use Rattle.smk_flow.specs.Flows.{Flow}
use Rattle.smk_store.specs.Images.{Image}
use Rattle.smk_chain.specs.Derive.{Listings}
use Rattle.smk_pick.specs.declared.settings.Settings.{Settings}
use Rattle.smk_plan.specs.States.{Plan, Progress, LastPlan}
use Rattle.smk_cli_calls.specs.OneByOne.{IsPlainFlow}
use Rattle.smk_laws_complete.specs.Derived.{GathersAlone}
use Rattle.smk_laws_driven.specs.Planning.{IsPlainPlan}

-- The jobs of their plans gather nothing and make plain files.
abbrev pub PlainFlowsPlanPlainly : Type 0
PlainFlowsPlanPlainly =
    (flow : Flow) (image : Image) (settings : Settings) (progress : Progress) (L : Listings) (plan : Plan) →
    IsPlainFlow flow → LastPlan flow image settings progress L plan → IsPlainPlan plan

-- And no item gathers.
abbrev pub PlainFlowsGatherAlone : Type 0
PlainFlowsGatherAlone = (flow : Flow) → IsPlainFlow flow → GathersAlone flow
