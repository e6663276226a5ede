-- What is told of the outputs of one job that was closed.
use Rattle.std.specs.Prelude.{◌≡◌, ℕ, Bool, true, false, List, [], ◌∷◌, ◌++◌, map, length, Option}
use Rattle.smk_base.specs.Place.{record_place}
use Rattle.smk_world.specs.declared.event.Found.{Found}
use Rattle.smk_world.specs.declared.event.Found.TheVariants.{Held, TooBig, Nothing as NoneFound}
use Rattle.smk_world.specs.declared.event.Stat.{Stat}
use Rattle.smk_world.specs.declared.event.Stat.TheVariants.{Nothing, File, Folder}
use Rattle.smk_world.specs.declared.event.NodeState.{NodeState}
use Rattle.smk_world.specs.World.{World, reading}
use Rattle.smk_world.specs.Trees.{Path, Each}
use Rattle.smk_record.specs.declared.record.Record.{Record}
use Rattle.smk_store.specs.declared.store.Entry.{Entry}
use Rattle.smk_store.specs.declared.store.Kept.{Kept}
use Rattle.smk_store.specs.declared.store.Kept.TheVariants.{Absent, Unreadable}
use Rattle.smk_store.specs.Images.{Image, kept_by}
use Rattle.smk_store.specs.Loading.{store_folder}
use Rattle.smk_store.specs.Unowned.{IsUnownedUnder}
use Rattle.smk_plan.specs.declared.seen.Sight.{Sight}
use Rattle.smk_plan.specs.Sights.{sight_of}
use Rattle.smk_plan_look.specs.Seeing.{IsSightOf}
use Rattle.smk_drive_outcome.specs.declared.outcome.Outcome.{Outcome}

-- what is kept of the path, which has no mark and is no log
abbrev pub unmarked_entry : Image → Path → Entry
unmarked_entry image p = record { kept = image.kept p; marked = false; noted = false }

-- One entry and one sight for each of these outputs, in their order, each sight with its output's path.
pub record AreForPaths (paths : List Path) (o : Outcome) : Type 0 where
  pub entries : length o.entries ≡ length paths
  pub sights : map (λ (s : Sight). s.path) o.sights ≡ paths

-- No running child owns what is looked at: the engine's own files, and what stands at or under these outputs.
pub record AreUnowned (w : World) (paths : List Path) : Type 0 where
  pub own : IsUnownedUnder w.nodes store_folder
  pub outputs : Each (IsUnownedUnder w.nodes) paths

-- So it is in the image, of these outputs.
pub record AreOutcomes (image : Image) (paths : List Path) (o : Outcome) : Type 0 where
  pub entries : o.entries ≡ map (unmarked_entry image) paths
  pub sights : o.sights ≡ map (sight_of image) paths

-- ## Steps

-- what is kept of the path, by what stands in the place of its record
abbrev pub entry_by : (List ℕ → Option Record) → (Path → NodeState) → Path → Entry
entry_by read nodes p = record { kept = kept_by read p (reading (nodes (record_place p))); marked = false; noted = false }

-- what a sight tells where no child owns its path or anything under it
abbrev pub TellsUnowned : (Path → NodeState) → Sight → Type 0
TellsUnowned nodes s = IsUnownedUnder nodes s.path → IsSightOf nodes s.path s

-- one entry and one sight more, that of the path
pub record HasAdded (p : Path) (old new : Outcome) : Type 0 where
  pub entry : Entry
  pub sight : Sight
  pub entries : new.entries ≡ old.entries ++ entry ∷ []
  pub sights : new.sights ≡ old.sights ++ sight ∷ []
  pub path : sight.path ≡ p

-- no file was found
abbrev pub is_missing : Found → Bool
is_missing (Held bytes) = false
is_missing (TooBig bytes) = false
is_missing NoneFound = true

-- what is kept where no file was found, and this stands there: nothing, or a folder, which is no record
abbrev pub kept_without : Stat → Kept
kept_without Nothing = Absent
kept_without (File time read_only) = Unreadable
kept_without Folder = Unreadable
