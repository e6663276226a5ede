-- The nodes of places, as kept in memory.
use Rattle.std.specs.Prelude.{ℕ, Bool, true, false, List, [], ◌∷◌, ◌++◌, map, ◌&&◌, not, ◌==◌, Option, None, Some, if◌then◌else◌, bytes_eq, string_bytes, String}
use Rattle.std.specs.List.{list_any, flat_map, filter}
use Rattle.std.specs.Str.{is_utf8}
use Rattle.std.specs.Ordering.{nat_cmp, is_le}
use Rattle.std.specs.Cmp.Lexicographic.{slice_cmp}
use Rattle.smk_world.specs.declared.event.Name.{Name}
use Rattle.smk_world.specs.declared.event.Listing.{Listing}
use Rattle.smk_world.specs.Calls.{is_name, no_listing}
use Rattle.std.specs.BTreeMap.{get_by_text}
use Rattle.std.specs.declared.alloc.Global.{Global}
use Rattle.smk_world.specs.declared.event.Node.{Node}
use Rattle.smk_world.specs.declared.event.Node.TheVariants.{Regular, Directory}
use Rattle.smk_world_nodes.specs.declared.nodes.Nodes.{Nodes}

abbrev pub node_at : Nodes → List ℕ → Option Node
node_at nodes q = get_by_text nodes.nodes q

-- one of the keys has this text
abbrev pub is_listed : List ℕ → List (String Global) → Bool
is_listed q keys = list_any (λ k. bytes_eq q (string_bytes k)) keys

-- the node, or else a folder
abbrev pub or_folder : Option Node → Option Node
or_folder None = Some Directory
or_folder (Some n) = Some n

-- the keys under the folder, in order
abbrev pub keys_under : Nodes → List ℕ → List (List ℕ)
keys_under nodes p = map (λ e. string_bytes e.0) (filter (λ e. is_le (slice_cmp nat_cmp (p ++ 47 ∷ []) (string_bytes e.0)) && not (is_le (slice_cmp nat_cmp (p ++ 48 ∷ []) (string_bytes e.0)))) nodes.nodes.entries)

-- ## Listings

-- the name of the key, where it is directly in the folder
abbrev pub name_under : List ℕ → List ℕ → Option (List ℕ)
name_under [] folder = None
name_under (b ∷ text) [] = if b == 47 && is_name text then Some text else None
name_under (b ∷ text) (c ∷ folder) = if b == c then name_under text folder else None

abbrev pub is_text : List ℕ → Bool
is_text name = is_utf8 name && not (list_any (λ b. b == 10) name)

abbrev pub is_folder_there : Option Node → Bool
is_folder_there None = false
is_folder_there (Some (Regular bytes time read_only)) = false
is_folder_there (Some Directory) = true

abbrev pub entry_of : Bool → Option (List ℕ) → List Name
entry_of folder None = []
entry_of folder (Some name) = if is_text name then record { name = name; folder = folder } ∷ [] else []

abbrev pub is_strange : Option (List ℕ) → Bool
is_strange None = false
is_strange (Some name) = not (is_text name)

abbrev pub names_of : Nodes → List ℕ → List (List ℕ) → List Name
names_of nodes p ks = flat_map (λ k. entry_of (is_folder_there (node_at nodes k)) (name_under k p)) ks

abbrev pub strange_of : List ℕ → List (List ℕ) → Bool
strange_of p ks = list_any (λ k. is_strange (name_under k p)) ks

abbrev pub listing_at : Option Node → Nodes → List ℕ → Listing
listing_at None nodes p = no_listing
listing_at (Some (Regular bytes time read_only)) nodes p = no_listing
listing_at (Some Directory) nodes p = record { there = true; names = names_of nodes p (keys_under nodes p); strange = strange_of p (keys_under nodes p) }
