-- Stamps, chains of records, and what a record vouches for.
use Rattle.std.specs.Prelude.{◌≡◌, ◌⊎◌, ℕ, zero, suc, Bool, true, false, ◌&&◌, not, List, map, length, nat_le, reverse, if◌then◌else◌, Option, Some, None, option_map, is_some, IsTrue, IsSome}
use Rattle.std.specs.List.{find}
use Rattle.std.specs.Option.{option_and_then}
use Rattle.sha2.specs.Sha256.{sha256}
use Rattle.smk_base.specs.Digests.{digest}
use Rattle.smk_base.specs.declared.sum.Sum.{Sum as Digest}
use Rattle.smk_base.specs.declared.tree.Tree.{Tree}
use Rattle.smk_base.specs.declared.tree.Tree.TheVariants.{File}
use Rattle.smk_world.specs.World.{folders_above}
use Rattle.smk_world.specs.Trees.{Path, Act, IsIn, among, all_of, folders_of, part_at, value_at}
use Rattle.smk_record.specs.declared.record.Stamp.{Stamp}
use Rattle.smk_record.specs.declared.record.Stamp.TheVariants.{Time, Sum, Made}
use Rattle.smk_record.specs.declared.record.Record.{Record}
use Rattle.smk_record.specs.Records.{agrees, is_of_source, stamped}
use Rattle.smk_store.specs.Images.{Content, Image, source_at, is_source, core_at}

-- ## Stamps

-- a directory's own record
abbrev pub is_folder_record : Path → Option Record → Bool
is_folder_record p None = false
is_folder_record p (Some r) = among (folders_of r.recipe) p

-- the path whose record speaks for p: p itself, or else the nearest directory output above it, where the record reads
abbrev pub holder : Image → Path → Option Path
holder image p =
    if is_some (core_at image p) then Some p
    else find (λ f. is_folder_record f (core_at image f)) (reverse (folders_above p))

-- the stamp of what a record speaks for
abbrev pub made_stamp : Option Record → Option Stamp
made_stamp r = option_map (λ (s : Record). Made s.made) r

abbrev pub unmarked_stamp : Image → Path → Option Stamp
unmarked_stamp image h = if image.marked h then None else made_stamp (core_at image h)

-- the SHA-256 is taken of contents of at most so many bytes
abbrev pub is_summed : List ℕ → Bool
is_summed bytes = nat_le (length bytes) 1048576

-- the SHA-256 of a content
abbrev pub sum_of : List ℕ → Digest
sum_of bytes = digest (sha256 bytes)

-- the stamp of a source: its time, with its SHA-256 where that is taken
abbrev pub content_stamp : Content → Stamp
content_stamp c = if is_summed c.bytes then Sum c.time (sum_of c.bytes) else Time c.time

abbrev pub source_stamp : Option Content → Option Stamp
source_stamp f = option_map content_stamp f

-- The stamp now: of a source its time, with its SHA-256 where that is taken; of another path the serial of the record that speaks for
-- it, if that has no mark.
abbrev pub stamp_now : Image → Path → Option Stamp
stamp_now image p =
    if is_source image p then source_stamp (source_at image p) else option_and_then (unmarked_stamp image) (holder image p)

-- a mark stands there, and it counts: the marks of some paths are left out
abbrev pub is_marked_but : Image → (Path → Bool) → Path → Bool
is_marked_but image left_out h = image.marked h && not (left_out h)

abbrev pub unmarked_stamp_but : Image → (Path → Bool) → Path → Option Stamp
unmarked_stamp_but image left_out h = if is_marked_but image left_out h then None else made_stamp (core_at image h)

-- the stamp now, where the marks of some paths don't count
abbrev pub stamp_now_but : Image → (Path → Bool) → Path → Option Stamp
stamp_now_but image left_out p =
    if is_source image p then source_stamp (source_at image p) else option_and_then (unmarked_stamp_but image left_out) (holder image p)

-- ## Chains

-- While a Restore is unfinished the mark of an output of its doesn't count, as long as the record that it found stands: this says
-- of a path and a record without its members that a Restore found it there.
abbrev pub Eased : Type 1
Eased = Path → Record → Type 0

abbrev pub none_eased : Eased
none_eased p r = ⊥

-- the record at the path is this one, and no mark at it counts
abbrev pub Clear : Image → Eased → Path → Record → Type 0
Clear image eased p r = (core_at image p ≡ Some r) × ((image.marked p ≡ false) ⊎ eased p r)

-- q isn't a source, and this record at h speaks for it
pub record Speaks (image : Image) (eased : Eased) (q h : Path) (r : Record) : Type 0 where
  pub no_source : is_source image q ≡ false
  pub holder : holder image q ≡ Some h
  pub clear : Clear image eased h r

-- A record hangs together: for each input that was a product a record speaks now whose serial agrees with the recorded stamp,
-- and that record hangs together likewise; and `Agrees` holds of each input that was a source, with its recorded stamp.
pub data Chain (image : Image) (eased : Eased) (Agrees : Path → Stamp → Type 0) : Record → Type 0 where
  Link :
      (r : Record) (place : Path → ℕ → Path) (by : Path → ℕ → Record) →
      ((q : Path) (s : Stamp) → IsIn (stamped r) (q, s) → is_of_source s ≡ true → Agrees q s) →
      ((q : Path) (m : ℕ) →
      IsIn (stamped r) (q, Made m) → Speaks image eased q (place q m) (by q m) × IsTrue (agrees (Made m) (made_stamp (Some (by q m))))) →
      ((q : Path) (m : ℕ) → IsIn (stamped r) (q, Made m) → Chain image eased Agrees (by q m)) →
      Chain image eased Agrees r

-- nothing is asked of the source
abbrev pub any_source : Path → Stamp → Type 0
any_source q s = Unit {0}

-- the stamp now agrees with the recorded one
abbrev pub same_source : Image → Path → Stamp → Type 0
same_source image q s = IsTrue (agrees s (stamp_now image q))

-- A path is chained where its record reads, no mark counts there, and the record hangs together.
abbrev pub Chained : Image → Eased → Path → Type 0
Chained image eased p = (r : Record) × Clear image eased p r × Chain image eased any_source r

-- A path is trusted where it is chained, and along the whole chain each source is as it was recorded.
abbrev pub Trusted : Image → Eased → Path → Type 0
Trusted image eased p = (r : Record) × Clear image eased p r × Chain image eased (same_source image) r

-- ## What a record vouches for

-- the bytes that a path had at a time
abbrev pub Versions : Type 0
Versions = Path → ℕ → Option (List ℕ)

-- No two different contents among the versions have the same SHA-256, be they of one source or of several.
abbrev pub SumsDiffer : Versions → Type 0
SumsDiffer H =
    (p q : Path) (t u : ℕ) (a b : List ℕ) → H p t ≡ Some a → H q u ≡ Some b → sum_of a ≡ sum_of b → a ≡ b

-- The versions have the source as it was recorded: at its time, and with its SHA-256 where that was recorded.
abbrev pub HasVersion : Versions → Path → Stamp → Type 0
HasVersion H q (Time t) = IsSome (H q t)
HasVersion H q (Sum t s) = (bytes : List ℕ) × (H q t ≡ Some bytes) × (sum_of bytes ≡ s)
HasVersion H q (Made m) = Unit {0}

-- the content that an input had by its recorded stamp, by V of the record that speaks for it
abbrev pub input_value : Image → Versions → (Path → Option Tree) → Path × Stamp → Option Tree
input_value image H V (q, Time t) = option_map File (H q t)
input_value image H V (q, Sum t s) = option_map File (H q t)
input_value image H V (q, Made m) =
    option_and_then (λ h. if agrees (Made m) (made_stamp (core_at image h)) then option_and_then (part_at h q) (V h) else None) (holder image q)

abbrev pub vouched : Act → Path → (Path × Stamp → Option Tree) → Option Record → Option Tree
vouched act p value None = None
vouched act p value (Some r) = value_at act r.recipe p (all_of (map value (stamped r)))

-- What commands give at p on the recorded recipe and the inputs as they were by their recorded stamps; for chains of at most n
-- records. It looks at no mark.
abbrev pub vir : Image → Act → Versions → ℕ → Path → Option Tree
vir image act H zero p = None
vir image act H (suc n) p = vouched act p (input_value image H (vir image act H n)) (core_at image p)

abbrev pub made_at : Option Record → ℕ
made_at None = 0
made_at (Some r) = r.made

-- The value that the record of p vouches for: serials fall along a chain, so it has no more records than the serial says.
abbrev pub Vir : Image → Act → Versions → Path → Option Tree
Vir image act H p = vir image act H (suc (made_at (core_at image p))) p
