-- What a call keeps: after every prefix of its log a crash leaves a sound image with the sources of the entry, and so is the
-- world at its end.
use Rattle.std.specs.Prelude.{◌≡◌, ◌⊎◌, ℕ, Bool, false, ◌||◌, List, [], ◌++◌, filter, bytes_eq, ◌==◌, if◌then◌else◌, Option, Some, None, option_map, IsTrue}
use Rattle.std.specs.List.{list_any}
use Rattle.smk_base.specs.Place.{record_place, mark_place, note_place}
use Rattle.smk_world.specs.declared.event.Call.{Call}
use Rattle.smk_world.specs.declared.event.Call.TheVariants.{Removed}
use Rattle.smk_world.specs.declared.event.Event.{Event}
use Rattle.smk_world.specs.World.{World, run, is_within}
use Rattle.smk_world.specs.Trees.{Path}
use Rattle.smk_store.specs.Images.{Content, Image, seen, source_at, file_at}
use Rattle.smk_store.specs.Trust.{Versions, SumsDiffer, none_eased}
use Rattle.smk_store.specs.Soundness.{Outside, Sound, SoundWorld, EachImage, told}

abbrev pub or_put : Option (List ℕ) → ℕ → Option Content → Option (List ℕ)
or_put had t None = had
or_put had t (Some f) = if f.time == t then Some f.bytes else had

-- the versions with the sources of an image put at their times
abbrev pub with_sources : Versions → Image → Versions
with_sources H image p t = or_put (H p t) t (source_at image p)

-- a record, a mark or a note of the path is removed
abbrev pub forgets : Path → Call → Bool
forgets p (Removed q r) = bytes_eq q (record_place p) || (bytes_eq q (mark_place p) || bytes_eq q (note_place p))
forgets p c = false

-- those of the paths of which a record, a mark or a note has been removed so far
abbrev pub forgotten_so_far : List Path → List Event → List Path
forgotten_so_far paths events = filter (λ p. list_any (λ (e : Event). forgets p e.call) events) paths

-- the sources are those of the entry; at and under forgotten paths files may be sources besides
abbrev pub SourcesOf : Image → List Path → Image → Type 0
SourcesOf entry forgotten image =
    (p : Path) →
    (option_map told (source_at image p) ≡ option_map told (source_at entry p))
    ⊎ (IsTrue (is_within p forgotten) × (source_at image p ≡ file_at image p))

module _ (o : Outside) where
  -- after every prefix of the log, whatever a crash leaves is sound for the versions with its sources put there, and has the
  -- sources of the entry
  abbrev pub SafeThroughout : World → List Event → List Path → Versions → Type 0
  SafeThroughout entry log paths H =
      (events rest : List Event) →
      log ≡ events ++ rest →
      EachImage o.read (run entry events) (λ i.
      Sound o.act (with_sources H i) i none_eased × SourcesOf (seen o.read entry) (forgotten_so_far paths events) i)

  -- What a call keeps, by its entry, its log and the paths that it forgets, for versions of which no two different contents have the
  -- same SHA-256; where the flag says so, the world at its end is sound too, if no child is left.
  pub record KeepsSound (entry : World) (log : List Event) (paths : List Path) (to_the_end : Bool) : Type 0 where
    pub safe : (H : Versions) → SumsDiffer H → SoundWorld o entry H → SafeThroughout entry log paths H
    pub sound_at_exit :
        (H : Versions) →
        SumsDiffer H →
        SoundWorld o entry H →
        IsTrue to_the_end →
        (run entry log).children ≡ [] → SoundWorld o (run entry log) (with_sources H (seen o.read (run entry log)))
