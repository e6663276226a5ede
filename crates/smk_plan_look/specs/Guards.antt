-- How read-only files are looked for under a folder.
use Rattle.std.specs.Prelude.{◌≡◌, Bool, true, false, List, [], ◌∷◌, ◌++◌}
use Rattle.smk_base.specs.Path.{is_under, is_at_or_under}
use Rattle.smk_world.specs.World.{reading, reads_folder}
use Rattle.smk_world.specs.Calls.{stat_of}
use Rattle.smk_world.specs.Trees.{Path, Each, IsIn}
use Rattle.smk_store_members.specs.Members.{Nodes}
use Rattle.smk_plan.specs.Sights.{is_tellable}
use Rattle.smk_plan_look.specs.Seeing.{IsGuard, is_read_only}

-- a folder at or under p
pub record IsToList (nodes : Nodes) (p folder : Path) : Type 0 where
  pub inside : is_at_or_under folder p ≡ true
  pub reads : reads_folder (nodes folder) ≡ true
  pub tellable : is_tellable folder ≡ true

-- the place is under one of these folders
abbrev pub IsUnderOne : List Path → Path → Type 0
IsUnderOne folders q = (folder : Path) × IsIn folders folder × (is_under q folder ≡ true)

-- These folders at or under p are still to be listed: each read-only file at or under p is under one of them.
pub record AreWaiting (nodes : Nodes) (p : Path) (waiting : List Path) : Type 0 where
  pub folders : Each (IsToList nodes p) waiting
  pub rest : (q : Path) → is_at_or_under q p ≡ true → IsGuard nodes q → IsUnderOne waiting q

-- a folder waits now; of anything else it is told whether it is a read-only file
abbrev pub IsNoted : Nodes → Path → Bool → List Path → List Path → Bool → Type 0
IsNoted nodes place true old new found = (found ≡ false) × (new ≡ old ++ place ∷ [])
IsNoted nodes place false old new found = (found ≡ is_read_only (stat_of (reading (nodes place)))) × (new ≡ old)
