-- Laws of other crates that are taken for granted here.
use Rattle.smk_laws_turns.specs.Turning.{GrowingLeads, OfParts}
use Rattle.smk_laws_turns.specs.Resting.{AnyIsReplanned, RestGoesBy}
use Rattle.smk_laws_turns.specs.Closed.{CloseDiffers, LeftOurs, TendDiffers}
use Rattle.smk_laws_turns.specs.Guarded.{PlanBeforeGuarding}
use Rattle.smk_laws_turns.specs.Onward.{GrowthGoesOn}

pub record Laws : Type 0 where
  pub rest_goes_by : RestGoesBy
  pub any_is_replanned : AnyIsReplanned
  pub close_differs : OfParts CloseDiffers
  pub tend_differs : OfParts TendDiffers
  pub left_ours : OfParts LeftOurs
  pub plan_before_guarding : PlanBeforeGuarding
  pub growth_goes_on : GrowthGoesOn
  pub growing_leads : OfParts GrowingLeads
