-- What the proofs use of texts of paths and of the engine's places, and of lists of names: premises of the law, each a fact about
-- bytes alone.
use Rattle.std.proofs.Common.{◌≡◌, ℕ, true, false, List, length, drop, ◌+◌, Option}
use Rattle.std.specs.Prelude.{bytes_eq, reverse, is_some, IsTrue}
use Rattle.std.specs.Option.{option_and_then}
use Rattle.smk_record.specs.declared.record.Record.{Record}
use Rattle.smk_world.specs.Trees.{Path, among, IsIn, part_at}
use Rattle.smk_store.specs.Images.{is_outside}
use Rattle.smk_base.specs.Path.{is_under, overlaps, is_at_or_under}
use Rattle.smk_world.specs.World.{folders_above, World, IsFormed, after, IsRising}
use Rattle.smk_base.specs.Place.{mark_place, record_place, note_place, lock_place}
use Rattle.smk_world.specs.declared.event.Event.{Event}
use Rattle.smk_laws_protocol.proofs.Moves.{covers}
use Rattle.smk_laws_protocol.proofs.Places.{PlaceLaws}
use Rattle.smk_laws_protocol.proofs.Records.{RecordLaws}
use Rattle.smk_laws_protocol.proofs.Crux.{Outside_paths, FolderLaw}
use Rattle.smk_laws_protocol.proofs.Holders.{FolderLaws}
use Rattle.smk_laws_protocol.proofs.Naming.{NamesLaws}
use Rattle.smk_laws_protocol.proofs.Views.{Nodes, HasNames, view_of}

-- notes are apart from all other places likewise
pub record NoteLaws : Type 0 where
  pub note_note : (p q : Path) → is_at_or_under (note_place q) (note_place p) ≡ bytes_eq q p
  pub note_record : (p q : Path) → is_at_or_under (record_place q) (note_place p) ≡ false
  pub note_mark : (p q : Path) → is_at_or_under (mark_place q) (note_place p) ≡ false
  pub note_path : (p q : Path) → is_outside q ≡ true → is_at_or_under q (note_place p) ≡ false

-- no path and no place of a mark, record or note is at the lock or under it
pub record LockLaws : Type 0 where
  pub lock_record : (q : Path) → is_at_or_under (record_place q) lock_place ≡ false
  pub lock_mark : (q : Path) → is_at_or_under (mark_place q) lock_place ≡ false
  pub lock_note : (q : Path) → is_at_or_under (note_place q) lock_place ≡ false
  pub lock_path : (q : Path) → is_outside q ≡ true → is_at_or_under q lock_place ≡ false

-- no place of a record, mark or note is above it
pub record IsFree (p : Path) : Type 0 where
  pub above_record : (q : Path) → is_under p (record_place q) ≡ false
  pub above_mark : (q : Path) → is_under p (mark_place q) ≡ false
  pub above_note : (q : Path) → is_under p (note_place q) ≡ false

pub record AboveLaws : Type 0 where
  pub path_free : (p : Path) → is_outside p ≡ true → IsFree p
  pub mark_free : (p : Path) → IsFree (mark_place p)
  pub note_free : (p : Path) → IsFree (note_place p)
  pub record_free : (p : Path) → IsFree (record_place p)
  pub lock_free : IsFree lock_place
  -- and no path is above the engine's own places
  pub mark_above : (p q : Path) → is_outside q ≡ true → is_under (mark_place p) q ≡ false
  pub record_above : (p q : Path) → is_outside q ≡ true → is_under (record_place p) q ≡ false
  pub note_above : (p q : Path) → is_outside q ≡ true → is_under (note_place p) q ≡ false
  pub lock_above : (q : Path) → is_outside q ≡ true → is_under lock_place q ≡ false

pub record OverlapLaws : Type 0 where
  pub self : (p : Path) → overlaps p p ≡ true
  pub swap : (p q : Path) → overlaps p q ≡ overlaps q p
  pub within : (p q : Path) → is_at_or_under q p ≡ true → overlaps q p ≡ true
  pub above : (p q : Path) → is_under q p ≡ true → overlaps p q ≡ true
  -- what overlaps a path under p, or at it, overlaps p
  pub down : (p q x : Path) → is_at_or_under q p ≡ true → overlaps q x ≡ true → overlaps p x ≡ true
  pub folder : (q f : Path) → IsIn (reverse (folders_above q)) f → is_under q f ≡ true
  pub covers : (p q : Path) → covers p q ≡ is_at_or_under q p

-- the names of the world after an event rise, and have all that reads
abbrev pub FormedLaw : Type 0
FormedLaw = (w : World) (e : Event) → IsFormed w → IsFormed (after w e)

-- the part of a directory's tree at a file under it is the file
abbrev pub PartLaw : (List ℕ → Option Record) → Type 0
PartLaw read =
    (names : List Path) (f : Nodes) (h q : Path) → IsRising names → HasNames names f → (view_of read names f).is_folder h ≡ true → is_under q h ≡ true →
    IsTrue (is_some ((view_of read names f).file q)) → option_and_then (part_at h q) ((view_of read names f).tree h) ≡ (view_of read names f).tree q

-- what is at a path or under it isn't at one of the engine's places, nor under it
pub record FarLaws : Type 0 where
  pub record_far : (p q x : Path) → is_outside p ≡ true → is_at_or_under q p ≡ true → is_at_or_under q (record_place x) ≡ false
  pub record_apart : (p x : Path) → is_outside p ≡ true → overlaps p (record_place x) ≡ false
  pub mark_far : (p q x : Path) → is_outside p ≡ true → is_at_or_under q p ≡ true → is_at_or_under q (mark_place x) ≡ false

-- paths under a folder differ in what they have beyond it
pub record DropLaws : Type 0 where
  pub not_self : (p q : Path) → is_under q p ≡ true → bytes_eq p q ≡ false
  pub drop_same : (p q x : Path) → is_under q p ≡ true → is_under x p ≡ true → drop (length p + 1) q ≡ drop (length p + 1) x → q ≡ x

-- All of them that speak of texts alone.
pub record TextLaws : Type 0 where
  pub marks : PlaceLaws
  pub records : RecordLaws
  pub notes : NoteLaws
  pub lock : LockLaws
  pub far : FarLaws
  pub above : AboveLaws
  pub outside : Outside_paths
  pub overlap : OverlapLaws
  pub holders : FolderLaws
  pub parts_of : DropLaws
  pub folder_in : (p q : Path) → is_under p q ≡ true → among (folders_above p) q ≡ true

pub record Texts (read : List ℕ → Option Record) : Type 0 where
  pub marks : PlaceLaws
  pub records : RecordLaws
  pub notes : NoteLaws
  pub lock : LockLaws
  pub far : FarLaws
  pub above : AboveLaws
  pub outside : Outside_paths
  pub overlap : OverlapLaws
  pub holders : FolderLaws
  pub folders : FolderLaw read
  pub parts : PartLaw read
  pub parts_of : DropLaws
  pub naming : NamesLaws read
  pub formed : FormedLaw
  pub grown : (w : World) (e : Event) (q : Path) → IsTrue (among w.names q) → IsTrue (among (after w e).names q)
