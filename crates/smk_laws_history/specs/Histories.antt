-- Histories: worlds that follow one another by calls, edits, removals and crashes.
use Rattle.std.specs.Prelude.{◌≡◌, ◌⊎◌, ◌<◌, ℕ, Bool, true, false, ◌&&◌, not, List, [], ◌∷◌, ◌++◌, bytes_eq, if◌then◌else◌, Option, Some, None, IsTrue}
use Rattle.std.specs.List.{list_all, filter}
use Rattle.smk_base.specs.Path.{own_folder, is_under, is_at_or_under}
use Rattle.smk_world.specs.declared.event.Node.{Node}
use Rattle.smk_world.specs.declared.event.Node.TheVariants.{Regular, Directory}
use Rattle.smk_world.specs.declared.event.Event.{Event}
use Rattle.smk_world.specs.World.{World, Nodes, IsFormed, reading, run, world_of, firmly, folders_above, add_names}
use Rattle.smk_world.specs.Folders.{IsTree, IsLeft}
use Rattle.smk_world.specs.Runs.{Follows}
use Rattle.smk_world.specs.Trees.{Path, IsIn, is_folder_kind, kind_in}
use Rattle.smk_record.specs.declared.record.Stamp.{Stamp}
use Rattle.smk_record.specs.declared.record.Member.{Member}
use Rattle.smk_record.specs.declared.record.Record.{Record}
use Rattle.smk_record.specs.Records.{source_time, stamped}
use Rattle.smk_store.specs.Images.{Image, Content, seen, source_at, file_at, is_file, is_folder, is_source, core_at, record_at, members_under}
use Rattle.smk_store.specs.Trust.{Versions, SumsDiffer, sum_of}
use Rattle.smk_store.specs.Soundness.{Outside, EachImage, SoundWorld}
use Rattle.smk_store.specs.Safety.{KeepsSound, with_sources}
use Rattle.smk_laws_protocol.specs.Protocol.{RunState, Runs}
use Rattle.smk_laws_protocol.specs.Midway.{IsTop, at_entry}
use Rattle.smk_laws_protocol.specs.Forgetting.{Stage, Resting, is_resting, ForgetsAll}

-- ## Directories with no more than is listed

-- Under a directory output that stands, and whose record reads and has no mark, no more stands than the record lists.
abbrev pub ListsAll : Image → Type 0
ListsAll image =
    (p : Path) (r : Record) →
    record_at image p ≡ Some r →
    image.marked p ≡ false →
    is_folder_kind (kind_in r.recipe p) ≡ true → is_folder image p ≡ true → (m : Member) → IsIn (members_under image p) m → IsIn r.members m

-- so it is in the world as it reads and in whatever a crash leaves of it
pub record IsListed (o : Outside) (w : World) : Type 0 where
  pub now : ListsAll (seen o.read w)
  pub after_crash : EachImage o.read w ListsAll

-- What a call keeps of this, from a world that is sound for versions of which no two different contents have the same SHA-256: after every
-- prefix of its log it is so in whatever a crash leaves; and, where the flag says so, in the world at its end, if no child is left.
pub record KeepsListed (o : Outside) (entry : World) (log : List Event) (to_the_end : Bool) : Type 0 where
  pub throughout :
      (H : Versions) → SumsDiffer H → SoundWorld o entry H → IsListed o entry → (events rest : List Event) → log ≡ events ++ rest → EachImage o.read (run entry events) ListsAll
  pub at_exit :
      (H : Versions) → SumsDiffer H → SoundWorld o entry H → IsListed o entry → IsTrue to_the_end → (run entry log).children ≡ [] → ListsAll (seen o.read (run entry log))

-- ## Worlds that follow one another

-- a world to begin with: a tree with nothing of the engine's, no child, every node firm
pub record IsNew (w : World) : Type 0 where
  pub formed : IsFormed w
  pub tree : IsTree w
  pub none_own : (q : Path) → is_at_or_under q own_folder ≡ true → reading (w.nodes q) ≡ None
  pub no_child : w.children ≡ []
  pub all_firm : (q : Path) → (n : Option Node) × (w.nodes q ≡ firmly n)

-- a file is put at p, firmly, and folders above it
abbrev pub edited : World → Path → Node → World
edited w p node =
    record w {
      names = add_names (p ∷ folders_above p) w.names;
      nodes = λ q. if bytes_eq q p then firmly (Some node) else (if is_under p q then firmly (Some Directory) else w.nodes q);
    }

-- what is at and under p is taken away, firmly
abbrev pub removed : World → Path → World
removed w p =
    record w {
      names = filter (λ q. not (is_at_or_under q p)) w.names;
      nodes = λ q. if is_at_or_under q p then firmly None else w.nodes q;
    }

-- the time is above every time of a file and of a source stamp in a record
pub record IsLater (image : Image) (time : ℕ) : Type 0 where
  pub than_files : (p : Path) (f : Content) → file_at image p ≡ Some f → f.time < time
  pub than_records :
      (p : Path) (r : Record) (q : Path) (s : Stamp) (t : ℕ) → core_at image p ≡ Some r → IsIn (stamped r) (q, s) → source_time s ≡ Some t → t < time

-- no folder stands there, and no file above
abbrev pub can_stand : Image → Path → Bool
can_stand image p = not (is_folder image p) && list_all (λ f. not (is_file image f)) (folders_above p)

-- A call of the engine, by its entry, its log and the paths that it forgets: its events are ones that the world lets happen, and it
-- keeps what its clauses on crashes say; to its end, where the flag says so.
pub record IsCall (o : Outside) (entry : World) (log : List Event) (paths : List Path) (to_the_end : Bool) : Type 0 where
  pub follows : Follows o.act entry log
  pub sound : KeepsSound o entry log paths to_the_end
  pub listed : KeepsListed o entry log to_the_end

-- One step of a history. An edit or addition makes a source, with a later time; a removal takes what isn't the engine's; a call runs
-- to its end, or a crash comes after some of its events.
pub data Step (o : Outside) (w : World) : World → Type 0 where
  Edit :
      (p : Path) (bytes : List ℕ) (time : ℕ) (read_only : Bool) →
      IsTrue (can_stand (seen o.read w) p) →
      IsLater (seen o.read w) time →
      IsTrue (is_source (seen o.read (edited w p (Regular bytes time read_only))) p) →
      EachImage o.read (edited w p (Regular bytes time read_only)) (λ i. IsTrue (is_source i p)) →
      Step o w (edited w p (Regular bytes time read_only))
  Remove : (p : Path) → is_at_or_under p own_folder ≡ false → Step o w (removed w p)
  Call : (log : List Event) (paths : List Path) → IsCall o w log paths true → (run w log).children ≡ [] → Step o w (run w log)
  Crash :
      (log events rest : List Event) (paths : List Path) (to_the_end : Bool) (nodes : Nodes) →
      IsCall o w log paths to_the_end → log ≡ events ++ rest → IsLeft (run w events) nodes → Step o w (world_of nodes)

-- no path has a version
abbrev pub no_versions : Versions
no_versions p t = None

-- A history by its last world, with its versions: each world so far, in turn, has put its sources there.
pub data History (o : Outside) : World → Versions → Type 0 where
  Begin : (w : World) → IsNew w → History o w (with_sources no_versions (seen o.read w))
  Go : (w next : World) (H : Versions) → History o w H → Step o w next → History o next (with_sources H (seen o.read next))

-- a source has these bytes
abbrev pub IsHeld : Image → List ℕ → Type 0
IsHeld image bytes = (p : Path) × (f : Content) × (source_at image p ≡ Some f) × (f.bytes ≡ bytes)

-- a source had these bytes in one of the worlds
abbrev pub HasHeld : (o : Outside) (w : World) (H : Versions) → History o w H → List ℕ → Type 0
HasHeld o _ _ (Begin w new) bytes = IsHeld (seen o.read w) bytes
HasHeld o _ _ (Go w next H past step) bytes = HasHeld o w H past bytes ⊎ IsHeld (seen o.read next) bytes

-- no two different of these contents have the same SHA-256
abbrev pub DifferInSums : (List ℕ → Type 0) → Type 0
DifferInSums Had = (a b : List ℕ) → Had a → Had b → sum_of a ≡ sum_of b → a ≡ b

-- No two different contents that sources had in the history have the same SHA-256.
abbrev pub SumsDifferIn : (o : Outside) (w : World) (H : Versions) → History o w H → Type 0
SumsDifferIn o w H past = DifferInSums (HasHeld o w H past)

-- So of its versions no two different contents have the same SHA-256.
abbrev pub VersionsDiffer : Type 0
VersionsDiffer = (o : Outside) (w : World) (H : Versions) (past : History o w H) → SumsDifferIn o w H past → SumsDiffer H

-- Every world of every history in which no two different contents of sources have the same SHA-256 is sound for its versions.
abbrev pub HistoryLaw : Type 0
HistoryLaw = (o : Outside) (w : World) (H : Versions) (past : History o w H) → SumsDifferIn o w H past → SoundWorld o w H

-- It is a tree: what stands has a name, and stands in folders.
abbrev pub HistoryIsTree : Type 0
HistoryIsTree = (o : Outside) (w : World) (H : Versions) → History o w H → IsTree w

-- And its directories have no more than their records list.
abbrev pub HistoryIsListed : Type 0
HistoryIsListed = (o : Outside) (w : World) (H : Versions) (past : History o w H) → SumsDifferIn o w H past → IsListed o w

-- A run of the protocol is a call that stands in a history.
abbrev pub RunIsCall : Type 0
RunIsCall =
    (o : Outside) (entry : World) (top : ℕ) (log : List Event) (s : RunState) →
    IsTop o entry top → Follows o.act entry log → Runs o (at_entry o top) entry log s → IsCall o entry log [] true

-- So is a log that forgets paths; to its end, where no path's turn is left open.
abbrev pub ForgettingIsCall : Type 0
ForgettingIsCall =
    (o : Outside) (entry : World) (paths : List Path) (log : List Event) (s : Stage) →
    Follows o.act entry log → ForgetsAll o paths Resting entry log s → IsCall o entry log paths (is_resting s)
