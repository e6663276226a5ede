-- What a walk under a folder has found so far, and how it goes on.
use Rattle.std.specs.Prelude.{◌≡◌, ◌⊎◌, ℕ, ◌≤◌, Bool, true, false, ◌&&◌, List, [], ◌∷◌, ◌++◌, map, length, bytes_eq, String}
use Rattle.std.specs.Global.{Global}
use Rattle.std.specs.BTreeSet.{BTreeSet, contains_text}
use Rattle.std.specs.List.{IsDistinct}
use Rattle.smk_base.specs.Path.{is_path}
use Rattle.smk_world.specs.declared.event.Name.{Name}
use Rattle.smk_world.specs.World.{is_named, folders_above, reads_folder}
use Rattle.smk_world.specs.Calls.{Stands, in_folder, is_name}
use Rattle.smk_world.specs.Trees.{Path, Each, IsIn, is_path_text}
use Rattle.smk_record.specs.declared.record.Member.{Member}
use Rattle.smk_record.specs.Records.{is_member_folder, are_rising}
use Rattle.smk_store_members.specs.Members.{Nodes, IsThere, member_places, HasNoMembers}

-- ## What is found

abbrev pub member : Bool → Path → Member
member folder name = record { folder = folder; name = name }

abbrev pub names_of : List Member → List Path
names_of found = map (λ (m : Member). m.name) found

abbrev pub is_found : List Member → Path → Bool
is_found found q = is_named q (names_of found)

-- the name makes a path in the directory at p
abbrev pub is_member_name : Path → Path → Bool
is_member_name p name = is_path_text name && is_path (in_folder p name)

-- One set has the names of what is found, another one those of its folders. They are paths, and there are at most 20,000.
pub record AreKept (found : List Member) (names folders : BTreeSet (String Global)) : Type 0 where
  pub named : (q : Path) → contains_text names q ≡ is_found found q
  pub folded : (q : Path) → contains_text folders q ≡ is_member_folder found q
  pub paths : (q : Path) → contains_text names q ≡ true → is_path q ≡ true
  pub few : length found ≤ 20000

-- these are what is found, in byte order
pub record AreInOrder (found members : List Member) : Type 0 where
  pub rising : are_rising (names_of members) ≡ true
  pub same : (q : Path) → is_found members q ≡ is_found found q
  pub kinds : Each (λ (m : Member). m.folder ≡ is_member_folder found m.name) members
  pub apart : IsDistinct bytes_eq (names_of members)

-- ## One name

-- The name was found before, or is found now. Or nothing is changed, since a record can't tell it, or there are 20,000 others.
abbrev pub HasAdded : Path → Path → Bool → List Member → List Member → Bool → Type 0
HasAdded p name folder old new true =
    ((is_found old name ≡ true) × (new ≡ old)) ⊎ ((is_found old name ≡ false) × (is_member_name p name ≡ true) × (new ≡ old ++ member folder name ∷ []))
HasAdded p name folder old new false = (is_member_name p name ≡ false) ⊎ ((is_found old name ≡ false) × (20000 ≤ length old))

-- ## The walk

-- the folder at p, or one that is found
abbrev pub IsFolderIn : Path → List Member → Path → Type 0
IsFolderIn p found g = (g ≡ p) ⊎ ((f : Path) × (g ≡ in_folder p f) × (is_member_folder found f ≡ true))

-- the place is one of those that are found
abbrev pub HasPlace : Path → List Member → Path → Type 0
HasPlace p found q = (t : Path) × (q ≡ in_folder p t) × (is_found found t ≡ true)

-- all that is directly in the folder is found
abbrev pub IsDone : Nodes → Path → List Member → Path → Type 0
IsDone nodes p found g = (name : List ℕ) → is_name name ≡ true → Stands (nodes (in_folder g name)) → HasPlace p found (in_folder g name)

-- What is found is there, and a record may have each of it; and all that is directly in a folder is found, but for those that are still open.
pub record IsWalk (nodes : Nodes) (p : Path) (found : List Member) (open_at : List Path) : Type 0 where
  pub there : Each (IsThere nodes p) found
  pub names : Each (λ (m : Member). is_member_name p m.name ≡ true) found
  pub apart : IsDistinct bytes_eq (names_of found)
  pub above : Each (λ (m : Member). Each (λ f. is_member_folder found f ≡ true) (folders_above m.name)) found
  pub done : (g : Path) → IsFolderIn p found g → IsIn open_at g ⊎ IsDone nodes p found g

-- the folder at g, in which names have this front
abbrev pub IsFront : Path → List Member → List ℕ → Path → Type 0
IsFront p found front g = ((front ≡ []) × (g ≡ p)) ⊎ ((f : Path) × (front ≡ f ++ 47 ∷ []) × (g ≡ in_folder p f) × (is_member_folder found f ≡ true))

-- the name stands directly in the folder at g, and is a folder's where it says so
pub record IsNameIn (nodes : Nodes) (g : Path) (n : Name) : Type 0 where
  pub name : is_name n.name ≡ true
  pub stands : Stands (nodes (in_folder g n.name))
  pub kind : n.folder ≡ reads_folder (nodes (in_folder g n.name))

-- the walk has gone on: it has found more, whose folders are open too
abbrev pub HasGoneOn : Nodes → Path → List Path → List Member → List Member → Type 0
HasGoneOn nodes p open_at old new = (more : List Member) × (new ≡ old ++ more) × IsWalk nodes p new (open_at ++ member_places p more)

abbrev pub AreAllFound : List Member → List ℕ → List Name → Type 0
AreAllFound found front names = Each (λ (n : Name). is_found found (front ++ n.name) ≡ true) names

-- the one where it is so, the other where not
abbrev pub Either : Bool → Type 0 → Type 0 → Type 0
Either true A B = A
Either false A B = B

-- the names in the open folder at g were added, or a record can't tell what there is
abbrev pub AreAdded : Path → List ℕ → List Name → List Member → List Member → Bool → Type 0
AreAdded p front names old new good =
    (nodes : Nodes) (g : Path) (open_at : List Path) →
    IsWalk nodes p old (g ∷ open_at) →
    IsFront p old front g →
    Each (IsNameIn nodes g) names →
    Either good (HasGoneOn nodes p (g ∷ open_at) old new × AreAllFound new front names) (HasNoMembers nodes p)

-- the open folder at g is done, or a record can't tell what there is
abbrev pub IsListedIn : Nodes → Path → List ℕ → Path → List Member → List Member → Bool → Type 0
IsListedIn nodes p front g old new good =
    (open_at : List Path) → IsWalk nodes p old (g ∷ open_at) → IsFront p old front g → Either good (HasGoneOn nodes p open_at old new) (HasNoMembers nodes p)
