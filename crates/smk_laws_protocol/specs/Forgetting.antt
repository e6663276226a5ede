-- Forgetting paths: which events may come, path by path, and the law that they keep every crash image sound.
use Rattle.std.specs.Prelude.{◌≡◌, Bool, true, false, List, [], ◌∷◌, bytes_eq, Option, Some, Ok, IsTrue}
use Rattle.smk_base.specs.Path.{is_at_or_under, overlaps, own_folder}
use Rattle.smk_base.specs.Place.{record_place, mark_place, note_place}
use Rattle.smk_world.specs.declared.event.Node.{Node}
use Rattle.smk_world.specs.declared.event.Call.TheVariants.{Removed, Settled}
use Rattle.smk_world.specs.declared.event.Change.{Change}
use Rattle.smk_world.specs.declared.event.NodeState.TheVariants.{Owned}
use Rattle.smk_world.specs.declared.event.Event.{Event}
use Rattle.smk_world.specs.World.{World, after, firmly}
use Rattle.smk_world.specs.Calls.{failed}
use Rattle.smk_world.specs.Runs.{Follows}
use Rattle.smk_world.specs.Trees.{Path, IsIn, among, is_path_text}
use Rattle.smk_record.specs.declared.record.Stamp.{Stamp}
use Rattle.smk_record.specs.declared.record.Record.{Record}
use Rattle.smk_record.specs.Records.{stamped, source_time}
use Rattle.smk_store.specs.Images.{Image, Content, file_at, core_at}
use Rattle.smk_store.specs.Safety.{KeepsSound}
use Rattle.smk_store.specs.Soundness.{Outside}
use Rattle.smk_laws_protocol.specs.Protocol.{IsLook, IsLock, IsAbsent, AreAmong, as_ok, now}

-- where a run that forgets paths is
pub data Stage : Type 0 where
  Resting : Stage  -- no path is being forgotten
  Unrecording : Path → Stage  -- what is at the path is firm; its record and note are being removed
  Unmarking : Path → Stage  -- they are gone for good; its mark is being removed
  Stopped : Stage  -- a call has failed

abbrev pub is_resting : Stage → Bool
is_resting Resting = true
is_resting stage = false

-- no record that reads names a file at or under the path by the time that it has
abbrev pub IsUnseen : Image → Path → Type 0
IsUnseen image p =
    (q x : Path) (r : Record) (f : Content) →
    core_at image q ≡ Some r →
    is_at_or_under x p ≡ true → file_at image x ≡ Some f → (s : Stamp) → IsIn (stamped r) (x, s) → source_time s ≡ Some f.time → ⊥

-- a crash leaves there just what reads
abbrev pub IsFirm : World → Path → Type 0
IsFirm w place = (n : Option Node) × (w.nodes place ≡ firmly n)

-- What is at the path and under it is firm, and so are the record, the mark and the note of each other path that overlaps it.
pub record IsFirmAround (w : World) (p : Path) : Type 0 where
  pub files : (q : Path) → is_at_or_under q p ≡ true → IsFirm w q
  pub records : (q : Path) → bytes_eq q p ≡ false → overlaps q p ≡ true → IsFirm w (record_place q)
  pub marks : (q : Path) → bytes_eq q p ≡ false → overlaps q p ≡ true → IsFirm w (mark_place q)
  pub notes : (q : Path) → bytes_eq q p ≡ false → overlaps q p ≡ true → IsFirm w (note_place q)

-- A settling of the path and of the engine's own folder is enough for that, where no child owns a place.
abbrev pub SettlingIsEnough : Type 0
SettlingIsEnough =
    (w : World) (p : Path) (ps : List Path) (left : List Change) →
    ((q : Path) → w.nodes q ≡ Owned → ⊥) →
    IsTrue (among ps p) → IsTrue (among ps own_folder) → IsFirmAround (after w (record { call = Settled ps (Ok tt); left = left })) p

module _ (o : Outside) (paths : List Path) where
  -- The next event, in a run that forgets some of these paths.
  pub data Forgets (w : World) : Stage → Event → Stage → Type 0 where
    Look : (s : Stage) (e : Event) → IsLook o e.call → Forgets w s e s
    Lock : (e : Event) → IsLock o e.call → Forgets w Resting e Resting
    Settle : (e : Event) (ps : List Path) → e.call ≡ Settled ps (Ok tt) → Forgets w Resting e Resting
    -- a path's turn comes by a settling after which all around it is firm
    Hold :
        (e : Event) (p : Path) (ps : List Path) →
        IsIn paths p →
        IsTrue (is_path_text p) → IsUnseen (now o w) p → e.call ≡ Settled ps (Ok tt) → IsFirmAround (after w e) p → Forgets w Resting e (Unrecording p)
    Unrecord : (e : Event) (p : Path) → e.call ≡ Removed (record_place p) (Ok tt) → Forgets w (Unrecording p) e (Unrecording p)
    Unnote : (e : Event) (p : Path) → e.call ≡ Removed (note_place p) (Ok tt) → Forgets w (Unrecording p) e (Unrecording p)
    Unrecorded :
        (e : Event) (p : Path) (ps : List Path) →
        e.call ≡ Settled ps (Ok tt) →
        IsAbsent w (record_place p) →
        IsAbsent w (note_place p) → AreAmong ps (record_place p ∷ note_place p ∷ []) → Forgets w (Unrecording p) e (Unmarking p)
    Unmark : (e : Event) (p : Path) → e.call ≡ Removed (mark_place p) (Ok tt) → Forgets w (Unmarking p) e (Unmarking p)
    Unmarked :
        (e : Event) (p : Path) (ps : List Path) →
        e.call ≡ Settled ps (Ok tt) → IsAbsent w (mark_place p) → AreAmong ps (mark_place p ∷ []) → Forgets w (Unmarking p) e Resting
    -- a call that might have come is answered Failed, and only looks come any more
    Fail : (s s' : Stage) (e : Event) → IsTrue (failed e.call) → Forgets w s (record e { call = as_ok e.call }) s' → Forgets w s e Stopped

  pub data ForgetsAll : Stage → World → List Event → Stage → Type 0 where
    Done : (s : Stage) (w : World) → ForgetsAll s w [] s
    Next :
        (s mid end : Stage) (w : World) (e : Event) (es : List Event) →
        Forgets w s e mid → ForgetsAll mid (after w e) es end → ForgetsAll s w (e ∷ es) end

-- A log that forgets paths so keeps what a call has to keep; to its end where no path's turn is left open.
abbrev pub ForgettingKeepsSound : Type 0
ForgettingKeepsSound =
    (o : Outside) (entry : World) (paths : List Path) (log : List Event) (s : Stage) →
    Follows o.act entry log → ForgetsAll o paths Resting entry log s → KeepsSound o entry log paths (is_resting s)
