-- When all turns of a run may come, by the folder as it is before the first.
use Rattle.std.specs.Prelude.{◌≡◌, ◌≢◌, ◌⊎◌, ◌||◌, ℕ, suc, Bool, true, false, List, [], ◌++◌, ◌∷◌, map, nat_lt, if◌then◌else◌, Option, Some, None, IsTrue}
use Rattle.std.specs.List.{list_any}
use Rattle.smk_base.specs.Path.{overlaps}
use Rattle.smk_world.specs.World.{in_paths, out_paths}
use Rattle.smk_world.specs.Trees.{Path, IsIn, Each, is_path_text}
use Rattle.smk_record.specs.declared.record.Record.{Record}
use Rattle.smk_record.specs.declared.record.Stamp.{Stamp}
use Rattle.smk_record.specs.declared.record.Stamp.TheVariants.{Made}
use Rattle.smk_record.specs.Records.{record_of}
use Rattle.smk_store.specs.Images.{Content, Image, stands, is_source, source_at, core_at}
use Rattle.smk_store.specs.Soundness.{Outside}
use Rattle.smk_store.specs.Trust.{source_stamp}
use Rattle.smk_laws_protocol.specs.Protocol.{IsAgain, IsProductAt}
use Rattle.smk_run.specs.Stamps.{Serials}
use Rattle.smk_run.specs.Turns.{Turn, is_begun, is_done}
use Rattle.smk_laws_job.specs.Laws.{IsRecordable}
use Rattle.smk_safe.specs.Leaving.{owned}
use Rattle.smk_safe.specs.Running.{AreArranged}
use Rattle.smk_safe.specs.Turning.{opened}

-- ## Inputs

-- An input is there as the turn of its job comes: it is a source; or an output of a job that has its turn before; or what rests, which is a whole output or a file
-- in one, with an unmarked record of this serial, and overlaps nothing that these turns make or log.
pub data IsThere (o : Outside) (image : Image) (made : Serials) (before all : List Turn) (p : Path) : Type 0 where
  FromSource : made p ≡ None → is_source image p ≡ true → IsThere o image made before all p
  FromTurn : (t : Turn) → IsIn before t → IsIn (out_paths t.job.recipe) p → made p ≡ Some t.made → IsThere o image made before all p
  FromRest :
      (m : ℕ) (product : IsProductAt o image p (Made m)) →
      made p ≡ Some m →
      Each (λ (t : Turn). list_any (overlaps product.speaker) (owned t) ≡ false) all → IsThere o image made before all p

-- ## Serials

-- the stamp of an input as the image has it: of a product its serial, of a source its time and SHA-256
abbrev pub stamp_of : Option ℕ → Option Content → Option Stamp
stamp_of (Some serial) source = Some (Made serial)
stamp_of None source = source_stamp source

-- these are the stamps of the job's inputs as the image has them
abbrev pub AreStampsOf : Image → Serials → Turn → List Stamp → Type 0
AreStampsOf image made t stamps = map Some stamps ≡ map (λ q. stamp_of (made q) (source_at image q)) (in_paths t.job.recipe)

-- Of an output that is restored an unmarked record stands, in whose place the job's record with the stamps of now may be written again.
pub record IsRecordedSo (image : Image) (made : Serials) (t : Turn) (p : Path) : Type 0 where
  pub found : Record
  pub stands : core_at image p ≡ Some found
  pub unmarked : image.marked p ≡ false
  pub again : (stamps : List Stamp) → AreStampsOf image made t stamps → IsAgain found (record_of p t.made t.job.recipe stamps [])

-- the turn draws its serial, which is above those of the folder
abbrev pub draws : ℕ → Turn → Bool
draws top t = nat_lt top t.made

-- the greatest serial after the turn
abbrev pub greatest_after : ℕ → ℕ → Turn → ℕ
greatest_after top greatest t = if draws top t then t.made else greatest

-- The serial that it draws is the next one; one that it doesn't draw is that of the records that it will write again.
pub record HasItsSerial (image : Image) (made : Serials) (top greatest : ℕ) (t : Turn) : Type 0 where
  pub drawn : draws top t ≡ true → t.made ≡ suc greatest
  pub kept : draws top t ≡ false → Each (IsRecordedSo image made t) (out_paths t.job.recipe)

-- ## Turns

-- One of the turns: its job has an output, makes and logs what no source and no record or mark of another path is in the way of, and what it reads is there.
pub record IsReady (o : Outside) (image : Image) (made : Serials) (before all : List Turn) (t : Turn) : Type 0 where
  pub makes : out_paths t.job.recipe ≢ []
  pub paths : Each (λ p. IsTrue (is_path_text p)) (owned t)
  pub no_source : (q : Path) → is_source image q ≡ true → list_any (overlaps q) (owned t) ≡ false
  pub no_clash : (q : Path) → (stands (image.kept q) || image.marked q) ≡ true → list_any (overlaps q) (owned t) ≡ true → IsIn (out_paths t.job.recipe) q
  pub inputs : Each (IsThere o image made before all) (in_paths t.job.recipe)
  pub records : is_begun t.course ≡ true → Each (IsRecordable (opened t [])) (out_paths t.job.recipe)

-- each of these turns, which come after those before, with this greatest serial so far
abbrev pub AreReadyFrom : Outside → Image → Serials → List Turn → ℕ → ℕ → List Turn → List Turn → Type 0
AreReadyFrom o image made all top greatest before [] = Unit {0}
AreReadyFrom o image made all top greatest before (t ∷ ts) =
    IsReady o image made before all t × HasItsSerial image made top greatest t
    × AreReadyFrom o image made all top (greatest_after top greatest t) (before ++ t ∷ []) ts

-- All turns of a run are ready, by the folder as it is before the first one and its greatest serial: and what they make and log overlaps neither what they read
-- nor what other turns make and log.
pub record AreReady (o : Outside) (image : Image) (made : Serials) (top : ℕ) (ts : List Turn) : Type 0 where
  pub arranged : AreArranged ts
  pub ready : AreReadyFrom o image made ts top top [] ts

-- only the last of them may be of a job that isn't done
abbrev pub AreDoneButLast : List Turn → Type 0
AreDoneButLast [] = Unit {0}
AreDoneButLast (t ∷ ts) = ((ts ≡ []) ⊎ (is_done t.course ≡ true)) × AreDoneButLast ts
