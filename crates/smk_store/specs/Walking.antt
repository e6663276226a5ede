-- How the engine's folders are walked: the names in them, the paths of which they tell, and what is found.
use Rattle.std.specs.Prelude.{◌≡◌, ◌⊎◌, ℕ, Bool, true, false, List, [], ◌∷◌, ◌++◌, length, nat_lt, ◌+◌, ◌==◌, bytes_eq, if◌then◌else◌, Option, Some, None, is_some, IsSome, String, string_bytes, map}
use Rattle.std.specs.Global.{Global}
use Rattle.std.specs.List.{list_any}
use Rattle.smk_base.specs.Place.{name_of, records_folder, marks_folder, notes_folder}
use Rattle.smk_world.specs.declared.event.Name.{Name}
use Rattle.smk_world.specs.declared.event.NodeState.{NodeState}
use Rattle.smk_world.specs.World.{World, reading}
use Rattle.smk_world.specs.Calls.{in_folder}
use Rattle.smk_world.specs.Trees.{Path, is_path_text}
use Rattle.smk_store.specs.Images.{Image}
use Rattle.smk_store.specs.Stores.{Known}
use Rattle.smk_store.specs.Loading.{entry_at}

-- ## Names

-- what follows the sign, where the text begins with it
abbrev pub after_sign : ℕ → List ℕ → Option (List ℕ)
after_sign sign [] = None
after_sign sign (b ∷ text) = if b == sign then Some text else None

-- this is the path
abbrev pub is_it : Path → Path → Option (List ℕ) → Bool
is_it front q None = false
is_it front q (Some part) = bytes_eq (front ++ part) q

-- the name, in the folder of this front of paths, tells of the path
abbrev pub tells_of : Path → Path → Name → Bool
tells_of front q n = is_it front q (after_sign 61 n.name)

abbrev pub all_tell_of : Path → List Name → Path → Bool
all_tell_of front names q = list_any (tells_of front q) names

-- the front of paths that are told of in a folder of this sign and name; none where they would all be too long
abbrev pub front_in : Path → Option (List ℕ) → Option Path
front_in front None = None
front_in front (Some part) = if nat_lt (length front + length part) 1000 then Some (front ++ (part ++ 47 ∷ [])) else None

abbrev pub front_below : Path → Name → Option Path
front_below front n = if n.folder then front_in front (after_sign 43 n.name) else None

-- ## What is found

-- something stands at the name of these parts of a path
abbrev pub StandsIn : (Path → NodeState) → Path → Path → Type 0
StandsIn nodes folder rest = IsSome (reading (nodes (in_folder folder (name_of rest))))

-- A folder was walked that tells of the paths with this front: just those were added of which something stands.
pub record Walked (nodes : Path → NodeState) (folder front : Path) (old new : Path → Bool) : Type 0 where
  pub sound : (q : Path) → new q ≡ true → (old q ≡ true) ⊎ ((rest : Path) × (q ≡ front ++ rest) × StandsIn nodes folder rest)
  pub complete : (rest : Path) → is_path_text (front ++ rest) ≡ true → StandsIn nodes folder rest → new (front ++ rest) ≡ true
  pub keeps : (q : Path) → old q ≡ true → new q ≡ true

-- these are the paths of which something stands in the folder
abbrev pub HasAll : World → Path → (Path → Bool) → Type 0
HasAll w folder found = (p : Path) → is_path_text p ≡ true → found p ≡ is_some (reading (w.nodes (in_folder folder (name_of p))))

-- what is found in the engine's three folders
pub record HasSigns (w : World) (records marks notes : Path → Bool) : Type 0 where
  pub recorded : HasAll w records_folder records
  pub marked : HasAll w marks_folder marks
  pub noted : HasAll w notes_folder notes

-- ## What is made of it

-- the texts of a set, in byte order
abbrev pub texts_of : List (String Global) → List (List ℕ)
texts_of keys = map (λ k. string_bytes k) keys

-- the path that a text is, where it is one
abbrev pub path_in : List ℕ → Option Path
path_in text = if is_path_text text then Some text else None

-- each of these paths with what the image has of it
abbrev pub known_all : Image → List Path → List Known
known_all image ps = map (λ p. record { path = p; entry = entry_at image p }) ps
