-- What is told of the sources in a working folder, and of which paths.
use Rattle.std.specs.Prelude.{◌≡◌, true, false, List, [], Some, if◌then◌else◌}
use Rattle.std.specs.List.{AllByRecursion}
use Rattle.smk_base.specs.Path.{is_path}
use Rattle.smk_world.specs.Trees.{Path}
use Rattle.smk_pattern.specs.Shapes.{Text}
use Rattle.smk_flow.specs.Flows.{Flow, Candidate}
use Rattle.smk_choose.specs.declared.sources.Standing.{Standing}
use Rattle.smk_choose.specs.Choose.{Sources, candidates}
use Rattle.smk_choose.specs.Told.{standing_of, told_by}
use Rattle.smk_world.specs.Devices.{Device, WhereTold}
use Rattle.smk_store.specs.Images.{Image}
use Rattle.smk_store.specs.Stores.{Known}
use Rattle.smk_chain_sight.specs.declared.telling.Eye.{Eye}
use Rattle.smk_chain_sight.specs.Sight.{fitting, places}
use Rattle.smk_chain_sight.specs.Viewing.{Viewed, AreSighted, IsStanding}

-- what was seen is so, and so is what is told
pub record IsTrue (image : Image) (eye : Eye) : Type 0 where
  pub seen : AreSighted image eye.seen
  pub told : (q : Path) (s : Standing) → standing_of eye.sources q ≡ Some s → IsStanding image q s

-- something is told of the path
abbrev pub IsListed : Eye → Path → Type 0
IsListed eye p = (s : Standing) × (standing_of eye.sources p ≡ Some s)

-- what was told is told on
abbrev pub Keeps : Eye → Eye → Type 0
Keeps old new = (q : Path) (s : Standing) → standing_of old.sources q ≡ Some s → standing_of new.sources q ≡ Some s

-- In this world, whose files these calls began with, what was told was kept, and what was true stayed so.
pub record HasTold (begun : Device) (store : List Known) (old new : Eye) : Type 0 where
  pub keeps : Keeps old new
  pub stays : WhereTold begun (λ w. (image : Image) → Viewed w.nodes store image → IsTrue image old → IsTrue image new)

-- so it is of the paths at which the jobs that fit the path by name write
abbrev pub ArePlacesListed : Flow → Eye → Path → Type 0
ArePlacesListed flow eye p = AllByRecursion (λ (c : Candidate). AllByRecursion (λ (t : Text). is_path t ≡ true → IsListed eye t) (places flow c)) (fitting flow p)

-- something is told of the path, and, if it is no source, of those
abbrev pub IsListedAround : Flow → Eye → Path → Type 0
IsListedAround flow eye p = IsListed eye p × ((told_by eye.sources).is p ≡ false → ArePlacesListed flow eye p)

-- the candidates of the path, none of a source
abbrev pub candidates_by : Flow → Sources → Path → List Candidate
candidates_by flow sources p = if sources.is p then [] else candidates flow sources p

-- what is told is as these say
pub record Says (eye : Eye) (S : Sources) : Type 0 where
  pub is : (q : Path) (s : Standing) → standing_of eye.sources q ≡ Some s → s.source ≡ S.is q
  pub holds : (q : Path) (s : Standing) → standing_of eye.sources q ≡ Some s → s.holds ≡ S.holds q
