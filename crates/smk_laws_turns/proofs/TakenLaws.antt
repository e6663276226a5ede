-- Laws of another crate that are taken for granted here: a grown plan agrees with the folder, and has come as far.
use Rattle.smk_laws_turns.specs.Grown.{GrowthAgrees, GrowthIsAlike}

pub record Laws : Type 0 where
  pub growth_agrees : GrowthAgrees
  pub growth_is_alike : GrowthIsAlike
