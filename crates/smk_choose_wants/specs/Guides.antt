-- What a derivation goes by.
use Rattle.smk_flow.specs.Flows.{Flow}
use Rattle.smk_choose.specs.Index.{AreReadings}
use Rattle.smk_chain.specs.Derive.{Listings}
use Rattle.smk_choose_wants.specs.declared.guide.Guide.{Guide}
use Rattle.smk_choose_wants.specs.Wants.{ArePlaces}

-- What was read is that of the rules, and the places are those of the listings.
pub record IsGuide (flow : Flow) (L : Listings) (guide : Guide) : Type 0 where
  pub readings : AreReadings flow guide.readings.now
  pub places : ArePlaces L guide.places
