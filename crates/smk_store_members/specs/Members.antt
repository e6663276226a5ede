-- What is under a folder.
use Rattle.std.specs.Prelude.{◌≡◌, ℕ, true, List, map}
use Rattle.smk_base.specs.Path.{is_under}
use Rattle.smk_world.specs.declared.event.NodeState.{NodeState}
use Rattle.smk_world.specs.World.{reads_folder}
use Rattle.smk_world.specs.Calls.{Stands, in_folder, is_name}
use Rattle.smk_world.specs.Trees.{Path, Each, IsIn}
use Rattle.smk_record.specs.declared.record.Member.{Member}
use Rattle.smk_record.specs.Records.{are_valid_members}
use Rattle.smk_store.specs.Unowned.{IsUnownedUnder}
use Rattle.smk_store_members.specs.declared.listed.Listed.{Listed}
use Rattle.smk_store_members.specs.declared.listed.Listed.TheVariants.{Members, BadMember}

-- what stands at each place
abbrev pub Nodes : Type 0
Nodes = Path → NodeState

-- what is directly in the folder at p, and in the folders that are so found
pub data IsFound (nodes : Nodes) (p : Path) : Path → Type 0 where
  Inside : (name : List ℕ) → is_name name ≡ true → Stands (nodes (in_folder p name)) → IsFound nodes p (in_folder p name)
  Deeper :
      (folder : Path) (name : List ℕ) →
      IsFound nodes p folder →
      reads_folder (nodes folder) ≡ true →
      is_name name ≡ true → Stands (nodes (in_folder folder name)) → IsFound nodes p (in_folder folder name)

abbrev pub member_places : Path → List Member → List Path
member_places p members = map (λ (m : Member). in_folder p m.name) members

-- the member is in the folder at p, and is a folder where it says so
abbrev pub IsThere : Nodes → Path → Member → Type 0
IsThere nodes p m = IsFound nodes p (in_folder p m.name) × (reads_folder (nodes (in_folder p m.name)) ≡ m.folder)

-- These are all that is under the folder at p, and a record may have them.
pub record AreMembers (nodes : Nodes) (p : Path) (members : List Member) : Type 0 where
  pub valid : are_valid_members p members ≡ true
  pub there : Each (IsThere nodes p) members
  pub all : (q : Path) → IsFound nodes p q → IsIn (member_places p members) q

-- no members that a record may have are all that is under the folder
abbrev pub HasNoMembers : Nodes → Path → Type 0
HasNoMembers nodes p = (members : List Member) → AreMembers nodes p members → ⊥

-- All that stands under the folder at p stands in folders under it, so that it is found.
abbrev pub AllIsFound : Nodes → Path → Type 0
AllIsFound nodes p = (q : Path) → is_under q p ≡ true → Stands (nodes q) → IsFound nodes p q

-- a folder stands at p, and no child owns what is at or under it
pub record IsOpenFolder (nodes : Nodes) (p : Path) : Type 0 where
  pub folder : reads_folder (nodes p) ≡ true
  pub unowned : IsUnownedUnder nodes p

-- the members, or that there are none which a record may have
abbrev pub IsListed : Nodes → Path → Listed → Type 0
IsListed nodes p (Members members) = AreMembers nodes p members
IsListed nodes p BadMember = HasNoMembers nodes p
