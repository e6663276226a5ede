-- What looks at a working folder tell of the sources in it.
use Rattle.std.specs.Prelude.{◌≡◌, Bool, true, false, List, Some, IsSome}
use Rattle.std.specs.BTreeMap.{BTreeMap, get_by_text}
use Rattle.std.specs.Global.{Global}
use Rattle.std.specs.Prelude.{String}
use Rattle.smk_base.specs.Path.{is_under}
use Rattle.smk_world.specs.declared.event.NodeState.{NodeState}
use Rattle.smk_world.specs.declared.event.NodeState.TheVariants.{Owned}
use Rattle.smk_world.specs.declared.event.Stat.{Stat}
use Rattle.smk_world.specs.declared.event.Stat.TheVariants.{Nothing as NoStat, File as FileStat, Folder as FolderStat}
use Rattle.smk_world.specs.World.{reading, reads_folder, is_named}
use Rattle.smk_world.specs.Calls.{in_folder}
use Rattle.smk_world.specs.Trees.{Path, is_path_text}
use Rattle.smk_choose.specs.declared.sources.Standing.{Standing}
use Rattle.smk_store.specs.Images.{Image, is_covered, is_source, holds_source}
use Rattle.smk_store.specs.Stores.{Known, is_covered_in}
use Rattle.smk_chain_sight.specs.declared.seeing.Sighted.{Sighted}

-- The nodes are those of the image, of which this is the store, and stand in folders; what a running child owns is covered.
pub record Viewed (nodes : Path → NodeState) (store : List Known) (image : Image) : Type 0 where
  pub in_folders : (folder name : Path) → is_path_text folder ≡ true → IsSome (reading (nodes (in_folder folder name))) → reads_folder (nodes folder) ≡ true
  pub owned : (q : Path) → is_path_text q ≡ true → nodes q ≡ Owned → is_covered_in store q ≡ true
  pub node : (p : Path) → is_path_text p ≡ true → image.node p ≡ reading (nodes p)
  pub covered : (p : Path) → is_covered_in store p ≡ is_covered image p
  pub named : (q : Path) → is_source image q ≡ true → is_named q image.names ≡ true

-- no source is under it
abbrev pub NoneUnder : Image → Path → Type 0
NoneUnder image p = (q : Path) → is_under q p ≡ true → is_source image q ≡ false

-- a source is under it
abbrev pub SomeUnder : Image → Path → Type 0
SomeUnder image p = (q : Path) × (is_under q p ≡ true) × (is_source image q ≡ true)

-- whether one is
pub record TellsUnder (image : Image) (p : Path) (found : Bool) : Type 0 where
  pub some : found ≡ true → SomeUnder image p
  pub none : found ≡ false → NoneUnder image p

-- whether the path is a source; and where no folder is to be looked into, none is under it
pub record IsSighted (image : Image) (p : Path) (s : Sighted) : Type 0 where
  pub source : s.source ≡ is_source image p
  pub none : s.folder ≡ false → NoneUnder image p

-- so is each path that is known
abbrev pub AreSighted : Image → BTreeMap (String Global) Sighted → Type 0
AreSighted image seen = (q : Path) (s : Sighted) → get_by_text seen q ≡ Some s → IsSighted image q s

-- what is told of the path is so
abbrev pub IsStanding : Image → Path → Standing → Type 0
IsStanding image p s = (s.source ≡ is_source image p) × (s.holds ≡ holds_source image p)

abbrev pub by_stat : Stat → Sighted
by_stat NoStat = record { source = false; folder = false }
by_stat (FileStat time read_only) = record { source = true; folder = false }
by_stat FolderStat = record { source = false; folder = true }
