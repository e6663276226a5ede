-- Two paths that overlap, as they are refused; images whose known paths are listed; and what is in the way by a store.
use Rattle.std.specs.Prelude.{◌≡◌, Bool, true, false, ◌&&◌, ◌||◌, not, List, [], ◌∷◌, ◌++◌, map, filter, bytes_eq, Option, Some, None}
use Rattle.smk_base.specs.Path.{overlaps}
use Rattle.smk_world.specs.declared.recipe.Out.{Out}
use Rattle.smk_world.specs.Trees.{Path, among}
use Rattle.smk_record.specs.Records.{are_rising}
use Rattle.smk_store.specs.declared.store.Entry.{Entry}
use Rattle.smk_store.specs.Images.{Image, is_known, stands}
use Rattle.smk_store.specs.Stores.{Known, entry_of}
use Rattle.smk_chain.specs.Derive.{Refusal, Clash}

-- the refusal of the two
abbrev pub clash_of : Path × Path → Refusal
clash_of (p, q) = Clash p q

-- The known paths are those with a record, a mark or a note, in byte order.
pub record ListsKnown (image : Image) : Type 0 where
  pub rising : are_rising image.known ≡ true
  pub each : (q : Path) → among image.known q ≡ is_known image q

-- the spot of an output
abbrev pub output_of : Out → Path × Bool
output_of out = (out.path, true)

-- the spot of a log
abbrev pub log_of : Path → Path × Bool
log_of p = (p, false)

abbrev pub spot_paths : List (Path × Bool) → List Path
spot_paths spots = map (λ (s : Path × Bool). s.0) spots

-- ## By a store

abbrev pub paths_in : List Known → List Path
paths_in store = map (λ (k : Known). k.path) store

abbrev pub has_record_or_mark_in : Entry → Bool
has_record_or_mark_in e = stands e.kept || e.marked

-- what is known of a path is in the way of an output, which may be this path itself
abbrev pub blocks_output : Bool → Option Entry → Bool
blocks_output itself None = false
blocks_output itself (Some e) = e.noted || (has_record_or_mark_in e && not itself)

-- or of a log
abbrev pub blocks_log : Bool → Option Entry → Bool
blocks_log itself None = false
blocks_log itself (Some e) = has_record_or_mark_in e || (e.noted && not itself)

-- what the store has of the path q is in the way of an output, or else a log, at p
abbrev pub hinders_in : List Known → Path × Bool → Path → Bool
hinders_in store (p, true) q = overlaps p q && blocks_output (bytes_eq p q) (entry_of store q)
hinders_in store (p, false) q = overlaps p q && blocks_log (bytes_eq p q) (entry_of store q)

-- each spot with the earlier ones that it overlaps, and then with what the store has in its way
abbrev pub clashes_in : List Known → List Path → List (Path × Bool) → List Refusal
clashes_in store earlier [] = []
clashes_in store earlier (spot ∷ rest) =
    map (Clash spot.0) (filter (overlaps spot.0) earlier ++ filter (hinders_in store spot) (paths_in store))
    ++ clashes_in store (earlier ++ spot.0 ∷ []) rest
