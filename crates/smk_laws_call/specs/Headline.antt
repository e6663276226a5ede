-- What a run of the program gives, whatever has come before.
use Rattle.std.specs.Prelude.{◌≡◌, ◌⊎◌, ℕ, Bool, true, false, List, [], ◌++◌, Option, Some, None, Ok, IsTrue}
use Rattle.smk_base.specs.Path.{own_folder, is_at_or_under}
use Rattle.smk_world.specs.declared.event.Node.TheVariants.{Regular}
use Rattle.smk_world.specs.declared.event.Event.{Event}
use Rattle.smk_world.specs.World.{World, Nodes, run, world_of}
use Rattle.smk_world.specs.Calls.{Rose}
use Rattle.smk_world.specs.Devices.{Device, Sunk}
use Rattle.smk_world.specs.Folders.{IsLeft}
use Rattle.smk_world.specs.Trees.{Path, Act, Each, is_path_text}
use Rattle.smk_record.specs.Reading.{record_in}
use Rattle.smk_store.specs.Images.{is_source}
use Rattle.smk_store.specs.Trust.{Versions, SumsDiffer}
use Rattle.smk_store.specs.Soundness.{Outside, EachImage, SoundWorld}
use Rattle.smk_store.specs.Safety.{with_sources}
use Rattle.smk_laws_history.specs.Histories as histories
use Rattle.smk_laws_history.specs.Histories.{History, DifferInSums, IsHeld, IsNew, IsLater, can_stand, edited, removed, no_versions}
use Rattle.smk_laws_complete.specs.Derived.{AllHaveValues}
use Rattle.smk_pick.specs.declared.settings.Force.TheVariants.{No}
use Rattle.smk_report.specs.declared.fault.Fault.{Fault}
use Rattle.smk_words_reading.specs.declared.asked.Asked.{Asked as Request}
use Rattle.smk_words_reading.specs.declared.asked.Asked.TheVariants.{Run, Forget}
use Rattle.smk_words_reading.specs.declared.asked.RunWords.{RunWords}
use Rattle.smk_cli_entry.specs.declared.asking.Asked.{Asked}
use Rattle.smk_cli_entry.specs.Entry.{FailsToAsk, IsAskedIn}
use Rattle.smk_keep_forget.specs.Seen.{seen}
use Rattle.smk_laws_keys.specs.Keys.{outside}
use Rattle.smk_cli_calls.specs.Keys.{HasKept}
use Rattle.smk_cli_calls.specs.Whole.{HasServed}
use Rattle.smk_clean.specs.Again.{HasNoneLeft, StartsNothing}
use Rattle.smk_clean.specs.Clean.{HasMadeClean}
use Rattle.smk_laws_call.specs.Calls.{MayTell}
use Rattle.smk_laws_call.specs.Complete.{setting_in}
use Rattle.smk_laws_call.specs.Started.{StartsOnFinished}
use Rattle.smk_laws_call.specs.Telling.{HasPutSo, Tells}

-- A call of the program that led from the one told folder to the other: what was asked of it was served, and its fault is told.
pub record IsCalled (o : Outside) (request : Request) (told : Option Fault) (w v : World) : Type 0 where
  pub old : Device
  pub new : Device
  pub out_old : Sunk
  pub out_new : Sunk
  pub begins : old.world ≡ Some w
  pub ends : new.world ≡ Some v
  pub served : HasServed o.act o.read request w told old new out_old out_new

-- A call for `--unlock` or `--cleanup-metadata` that led from the one told folder to the other; the paths that are to be forgotten are texts.
pub record IsKeptCall (act : Act) (request : Request) (told : Option Fault) (w v : World) : Type 0 where
  pub old : Device
  pub new : Device
  pub out_old : Sunk
  pub out_new : Sunk
  pub begins : old.world ≡ Some w
  pub ends : new.world ≡ Some v
  pub kept : HasKept act request w told old new out_old out_new
  pub texts : (paths : List Path) (nolock : Bool) → request ≡ Forget paths nolock → Each (λ p. is_path_text p ≡ true) paths

-- A folder that came by calls of the program, by edits of sources and of the workflow, by removals, and by crashes, which come after any
-- event of a call; with its versions: each world so far, in turn, has put its sources there.
pub data Came (act : Act) : World → Versions → Type 0 where
  Begin : (w : World) → IsNew w → Came act w (with_sources no_versions (seen w))
  Edit :
      (w : World) (H : Versions) (p : Path) (bytes : List ℕ) (time : ℕ) (read_only : Bool) →
      Came act w H →
      IsTrue (can_stand (seen w) p) →
      IsLater (seen w) time →
      IsTrue (is_source (seen (edited w p (Regular bytes time read_only))) p) →
      EachImage record_in (edited w p (Regular bytes time read_only)) (λ i. IsTrue (is_source i p)) →
      Came act (edited w p (Regular bytes time read_only)) (with_sources H (seen (edited w p (Regular bytes time read_only))))
  Remove :
      (w : World) (H : Versions) (p : Path) →
      Came act w H → is_at_or_under p own_folder ≡ false → Came act (removed w p) (with_sources H (seen (removed w p)))
  -- a run or a listing
  Call :
      (w v : World) (H : Versions) (request : Request) (told : Option Fault) →
      Came act w H → IsCalled (outside act) request told w v → v.children ≡ [] → Came act v (with_sources H (seen v))
  -- `--unlock` or `--cleanup-metadata`, in which no call of the device failed
  Keep :
      (w v : World) (H : Versions) (request : Request) (told : Option Fault) →
      Came act w H →
      (called : IsKeptCall act request told w v) →
      (Rose called.old.faults called.new.faults → ⊥) → v.children ≡ [] → Came act v (with_sources H (seen v))
  Crash :
      (w v : World) (H : Versions) (request : Request) (told : Option Fault) (log events rest : List Event) (nodes : Nodes) →
      Came act w H →
      IsCalled (outside act) request told w v →
      v ≡ run w log →
      log ≡ events ++ rest → IsLeft (run w events) nodes → Came act (world_of nodes) (with_sources H (seen (world_of nodes)))
  CrashKeeping :
      (w v : World) (H : Versions) (request : Request) (told : Option Fault) (log events rest : List Event) (nodes : Nodes) →
      Came act w H →
      IsKeptCall act request told w v →
      v ≡ run w log →
      log ≡ events ++ rest → IsLeft (run w events) nodes → Came act (world_of nodes) (with_sources H (seen (world_of nodes)))

-- a source had these bytes in one of its worlds
abbrev pub HasHeld : (act : Act) (w : World) (H : Versions) → Came act w H → List ℕ → Type 0
HasHeld act _ _ (Begin w new) a = IsHeld (seen w) a
HasHeld act _ _ (Edit w H p bytes time read_only came can later now left) a =
    HasHeld act w H came a ⊎ IsHeld (seen (edited w p (Regular bytes time read_only))) a
HasHeld act _ _ (Remove w H p came outer) a = HasHeld act w H came a ⊎ IsHeld (seen (removed w p)) a
HasHeld act _ _ (Call w v H request told came called alone) a = HasHeld act w H came a ⊎ IsHeld (seen v) a
HasHeld act _ _ (Keep w v H request told came called quiet alone) a = HasHeld act w H came a ⊎ IsHeld (seen v) a
HasHeld act _ _ (Crash w v H request told log events rest nodes came called is split left) a = HasHeld act w H came a ⊎ IsHeld (seen (world_of nodes)) a
HasHeld act _ _ (CrashKeeping w v H request told log events rest nodes came called is split left) a =
    HasHeld act w H came a ⊎ IsHeld (seen (world_of nodes)) a

-- No two different contents that sources had in its worlds have the same SHA-256: the one premise on SHA-256.
abbrev pub SumsDifferIn : (act : Act) (w : World) (H : Versions) → Came act w H → Type 0
SumsDifferIn act w H came = DifferInSums (HasHeld act w H came)

-- It is a folder of a history in which these contents differ likewise, and so it is sound for its versions.
abbrev pub CameIsHistory : Type 0
CameIsHistory =
    (act : Act) (w : World) (H : Versions) (came : Came act w H) →
    SumsDifferIn act w H came → (past : History (outside act) w H) × histories.SumsDifferIn (outside act) w H past

abbrev pub CameIsSound : Type 0
CameIsSound = (act : Act) (w : World) (H : Versions) (came : Came act w H) → SumsDifferIn act w H came → SumsDiffer H × SoundWorld (outside act) w H

-- What is so of a run, whatever the workflow has: checkpoints and directories too, by which plans grow.
pub record RunGives (o : Outside) (words : RunWords) (told : Option Fault) (w v : World) (called : IsCalled o (Run words) told w v) : Type 0 where
  -- what it calls current holds what a clean run from the sources makes of it, however the run ended
  pub tells : HasPutSo called.out_old called.out_new (Tells o words w v)
  -- with status 0 each target holds what a clean run from the sources makes of it, be its jobs made one after another or driven
  pub clean : told ≡ None → HasMadeClean o words w v
  -- and where no job was forced nothing is left to do
  pub none_left : words.force ≡ No → told ≡ None → HasNoneLeft o words w v
  -- so a run with the same words starts nothing in the folder that is left, where they ask for the same of the workflow in it
  pub starts_nothing :
      words.force ≡ No →
      told ≡ None →
      ((asked : Asked) → IsAskedIn words w.nodes (Ok asked) → IsAskedIn words v.nodes (Ok asked)) →
      (again : Option Fault) (x : World) (next : IsCalled o (Run words) again v x) → StartsNothing next.served.serves
  -- no job was started on an output of an unfinished job, be they made one after another or driven
  pub finished : (log : List Event) → v ≡ run w log → StartsOnFinished o w log
  -- where the words aren't refused, a clean run gives each target and no call of the device failed, all is well, or it is told why not; be its jobs made one
  -- after another or driven, and outputs temporary or not
  pub complete :
      ((f : Fault) → FailsToAsk words w.nodes f → ⊥) →
      ((asked : Asked) → IsAskedIn words w.nodes (Ok asked) → AllHaveValues (setting_in o.act o.read asked w) asked.targets) →
      (Rose called.old.faults called.new.faults → ⊥) → MayTell o.act o.read true words w told

-- After any list of calls, edits of sources and of the workflow, failed jobs, removals and crashes this is so of a run, if no two different
-- contents that sources had meanwhile have the same SHA-256.
abbrev pub Headline : Type 0
Headline =
    (act : Act) (w v : World) (H : Versions) (words : RunWords) (told : Option Fault) →
    (came : Came act w H) →
    SumsDifferIn act w H came → (called : IsCalled (outside act) (Run words) told w v) → RunGives (outside act) words told w v called
