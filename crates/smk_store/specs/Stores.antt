-- What a store has: paths in byte order, each with what is known of it.
use Rattle.std.specs.Prelude.{◌≡◌, Bool, true, List, [], ◌∷◌, length, bytes_eq, if◌then◌else◌, Option, Some, None, is_some}
use Rattle.std.specs.List.{list_any}
use Rattle.smk_world.specs.World.{folders_above}
use Rattle.smk_world.specs.Trees.{Path}
use Rattle.smk_record.specs.Records.{are_rising}
use Rattle.smk_store.specs.declared.store.Entry.{Entry}

-- a path with what is known of it
pub record Known : Type 0 where
  pub path : Path
  pub entry : Entry

-- each path with the entry in its place
abbrev pub known : List Path → List Entry → List Known
known [] entries = []
known (p ∷ ps) [] = []
known (p ∷ ps) (e ∷ entries) = record { path = p; entry = e } ∷ known ps entries

-- the paths rise, and there is one entry for each
pub record AreKept (paths : List Path) (entries : List Entry) : Type 0 where
  pub rising : are_rising paths ≡ true
  pub each : length entries ≡ length paths

-- what is known of the path
abbrev pub entry_of : List Known → Path → Option Entry
entry_of [] p = None
entry_of (k ∷ ks) p = if bytes_eq k.path p then Some k.entry else entry_of ks p

-- something is known of the path or of a folder above it
abbrev pub is_covered_in : List Known → Path → Bool
is_covered_in ks p = list_any (λ q. is_some (entry_of ks q)) (p ∷ folders_above p)
