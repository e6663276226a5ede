-- Chains and walks, as clauses speak of them by what they are asked about.
use Rattle.std.specs.Prelude.{ℕ, List, Option, Result}
use Rattle.smk_world.specs.Trees.{Path}
use Rattle.smk_choose.specs.declared.choice.Making.{Making}
use Rattle.smk_choose.specs.declared.table.Choices.{Choices}
use Rattle.smk_choose.specs.Choose.{Sources}
use Rattle.smk_choose.specs.Told.{told_by, Covers}
use Rattle.smk_choose_wants.specs.Guides.{IsGuide}
use Rattle.smk_chain.specs.declared.fault.ChainFault.{ChainFault}
use Rattle.smk_chain_walk.specs.declared.folders.Folders.{Folders}
use Rattle.smk_chain_walk.specs.declared.kept.Heights.{Heights}
use Rattle.smk_chain_walk.specs.declared.query.Query.{Query}
use Rattle.smk_chain_walk.specs.declared.reached.Reached.{Reached}
use Rattle.smk_chain_walk.specs.Folders.{AreFolders}
use Rattle.smk_chain_walk.specs.Heights.{AreHeights, AreCovered, IsCovered, Tells, TellsMost}
use Rattle.smk_chain_walk.specs.Steps.{Fits, Walked}

module _ (q : Query) where
  abbrev pub sources_of : Sources
  sources_of = told_by q.sources.now

  -- what was made of the rules and the listings is so
  abbrev pub IsGuided : Type 0
  IsGuided = IsGuide q.flow.now q.lists.now q.guide.now

  abbrev pub HasFolders : Folders → Type 0
  HasFolders folders = AreFolders q.flow.now q.lists.now folders

  -- the table has the choices for the path, and for so many levels of what is wanted under it
  abbrev pub IsTabled : Choices → ℕ → Path → Type 0
  IsTabled table n p = Covers q.flow.now sources_of table n p

  abbrev pub AreTabled : Choices → ℕ → List Path → Type 0
  AreTabled table n ps = AreCovered q.flow.now sources_of table n ps

  -- the same for what the job wants, whatever the listings are
  abbrev pub IsJobTabled : Choices → ℕ → Making → Type 0
  IsJobTabled table n m = IsCovered q.flow.now sources_of table n m

  -- what is known of paths are their heights
  abbrev pub KnowsHeights : Heights → Type 0
  KnowsHeights heights = AreHeights q.flow.now sources_of q.lists.now heights

  -- the height of the path, where no chain of so many jobs leads from it
  abbrev pub TellsHeight : ℕ → Path → Option ℕ → Type 0
  TellsHeight n p found = Tells q.flow.now sources_of q.lists.now n p found

  -- the greatest height of these, where no chain of so many jobs leads from any
  abbrev pub TellsHighest : ℕ → List Path → Option ℕ → Type 0
  TellsHighest n ps found = TellsMost q.flow.now sources_of q.lists.now n ps found

  -- no chain of more than n jobs leads from the path
  abbrev pub IsShallow : ℕ → Path → Type 0
  IsShallow n p = Fits q.flow.now sources_of q.lists.now n p

  -- what a walk from the path did
  abbrev pub HasWalked : Reached → Reached → Path → Result (Unit {0}) ChainFault → Type 0
  HasWalked old new p result = Walked q.flow.now sources_of q.lists.now old new p result
