-- The sources that records name, and which of them are seen.
use Rattle.std.specs.Prelude.{◌≢◌, ℕ, Bool, true, false, ◌&&◌, List, [], ◌∷◌, ◌==◌, if◌then◌else◌, Option, Some, None, All}
use Rattle.std.specs.List.{fold, flat_map}
use Rattle.std.specs.Cmp.Lexicographic.{slice_cmp}
use Rattle.std.specs.Ordering.{nat_cmp}
use Rattle.smk_base.specs.Path.{is_at_or_under}
use Rattle.smk_world.specs.declared.event.NodeState.TheVariants.{Owned}
use Rattle.smk_world.specs.declared.event.Stat.{Stat}
use Rattle.smk_world.specs.declared.event.Stat.TheVariants.{Nothing as NoStat, File as FileStat, Folder as FolderStat}
use Rattle.smk_world.specs.World.{World, reading}
use Rattle.smk_world.specs.Calls.{stat_of}
use Rattle.smk_world.specs.Trees.{Path}
use Rattle.smk_record.specs.declared.record.Stamp.{Stamp}
use Rattle.smk_record.specs.Records.{is_less, source_time}
use Rattle.smk_store.specs.declared.sources.Source.{Source}
use Rattle.smk_store.specs.declared.store.Entry.{Entry}
use Rattle.smk_store.specs.Forgetting.{inputs_of}
use Rattle.smk_store.specs.Images.{readable}
use Rattle.smk_store.specs.Stores.{Known}

-- the source q with this time, where it is at or under the path p
abbrev pub source_by : Path → Path → Option ℕ → List Source
source_by p q (Some t) = if is_at_or_under q p then record { path = q; time = t } ∷ [] else []
source_by p q None = []

-- an input that was a source, with its time, where it is at or under the path p
abbrev pub source_of : Path → Path × Stamp → List Source
source_of p (q, s) = source_by p q (source_time s)

abbrev pub sources_of : Path → List (Path × Stamp) → List Source
sources_of p inputs = flat_map (source_of p) inputs

-- those of one path's record
abbrev pub entry_sources : Path → Entry → List Source
entry_sources p e = sources_of p (inputs_of (readable e.kept))

-- those of all records
abbrev pub all_sources : Path → List Known → List Source
all_sources p ks = flat_map (λ (k : Known). entry_sources p k.entry) ks

-- a file was looked at, and has this time
abbrev pub has_time : ℕ → Stat → Bool
has_time time NoStat = false
has_time time (FileStat t read_only) = t == time
has_time time FolderStat = false

-- the source has its time in the world
abbrev pub is_seen : World → Source → Bool
is_seen w s = has_time s.time (stat_of (reading (w.nodes s.path)))

-- the path comes before that one, if there is one
abbrev pub comes_before : Path → Option Path → Bool
comes_before p None = true
comes_before p (Some q) = is_less (slice_cmp nat_cmp p q)

-- the earlier of the two paths, where this one counts
abbrev pub earlier : Option Path → Path → Bool → Option Path
earlier first p counts = if counts && comes_before p first then Some p else first

-- the first path, in byte order, of the sources that are seen
abbrev pub first_seen : (Source → Bool) → List Source → Option Path
first_seen seen sources = fold (λ first (s : Source). earlier first s.path (seen s)) None sources

-- no running child owns one of these sources
abbrev pub AreUnowned : World → List Source → Type 0
AreUnowned w sources = All (λ (s : Source). w.nodes s.path ≢ Owned) sources
