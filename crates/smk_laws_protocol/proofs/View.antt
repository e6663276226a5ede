-- An image as functions of a path, and trust over it: which record speaks for a path, chains of records, what a record vouches for.
-- The marks that count are a parameter: while a Restore is open, the marks of its outputs don't, as long as its record stands.
use Rattle.std.specs.Prelude.{◌≡◌, ◌⊎◌, ℕ, zero, suc, Bool, false, ◌&&◌, ◌||◌, not, List, find, reverse, ◌==◌, if◌then◌else◌, Option, Some, None, option_map, is_some, IsTrue}
use Rattle.std.specs.List.{list_any}
use Rattle.std.specs.Option.{option_and_then}
use lib.Pointwise.{pointwise}
use Rattle.smk_base.specs.declared.tree.Tree.{Tree}
use Rattle.smk_base.specs.declared.tree.Tree.TheVariants.{File}
use Rattle.smk_world.specs.declared.event.Node.{Node}
use Rattle.smk_world.specs.declared.event.Node.TheVariants.{Regular, Directory as FolderNode}
use Rattle.smk_world.specs.declared.recipe.Kind.{Kind}
use Rattle.smk_world.specs.declared.recipe.Kind.TheVariants.{Plain, Folder as Directory}
use Rattle.smk_record.specs.declared.record.Member.{Member}
use Rattle.smk_record.specs.declared.record.Stamp.{Stamp}
use Rattle.smk_record.specs.declared.record.Stamp.TheVariants.{Time, Sum, Made}
use Rattle.smk_record.specs.declared.record.Record.{Record}
use Rattle.smk_world.specs.Trees.{Path, IsIn, is_path_text, kind_in as kind_by, Act, part_at}
use Rattle.smk_store.specs.Images.{Image, Content, is_folder, members_under, tree_now, stands, core_at, record_at}
use Rattle.smk_world.specs.World.{folders_above}
use Rattle.smk_store.specs.Trust.{is_folder_record, Versions, HasVersion, Eased, vouched}
use Rattle.smk_record.specs.Records.{stamped, same_member, members_of}

-- the file as far as it counts: its bytes and its time, with the flag off
abbrev pub file_of : Option Node → Option Content
file_of None = None
file_of (Some FolderNode) = None
file_of (Some (Regular bytes time read_only)) = Some (record { bytes = bytes; time = time; read_only = false })

pub record View : Type 0 where
  pub file : Path → Option Content
  pub is_folder : Path → Bool
  pub members : Path → List Member
  pub tree : Path → Option Tree
  pub has_record : Path → Bool
  pub record_at : Path → Option Record  -- without its members
  pub listed : Path → List Member  -- its members
  pub marked : Path → Bool
  pub noted : Path → Bool

abbrev pub view : Image → View
view i =
    record {
      file = λ p. file_of (i.node p);
      is_folder = is_folder i;
      members = members_under i;
      tree = tree_now i;
      has_record = λ p. stands (i.kept p);
      record_at = core_at i;
      listed = λ p. members_of (record_at i p);
      marked = i.marked;
      noted = i.noted;
    }

abbrev pub kind_in : Record → Path → Kind
kind_in r p = kind_by r.recipe p

module _ (v : View) where
  abbrev pub is_known : Path → Bool
  is_known p = v.has_record p || v.marked p || v.noted p

  abbrev pub is_covered : Path → Bool
  is_covered p = is_known p || list_any is_known (folders_above p)

  abbrev pub is_source : Path → Bool
  is_source p = is_path_text p && is_some (v.file p) && not (is_covered p)

  abbrev pub source_at : Path → Option Content
  source_at p = if is_source p then v.file p else None

  -- the path whose record speaks for p: p itself, or else the nearest directory output above it
  abbrev pub holder : Path → Option Path
  holder p =
      if is_some (v.record_at p) then Some p
      else find (λ f. is_folder_record f (v.record_at f)) (reverse (folders_above p))

  abbrev pub is_whole : Path → Kind → Bool
  is_whole p Plain = is_some (v.file p)
  is_whole p Directory = v.is_folder p && pointwise same_member (v.members p) (v.listed p)

-- the record at the path is this one, and no mark at it counts
abbrev pub Clear : View → Eased → Path → Record → Type 0
Clear v eased p r = (v.record_at p ≡ Some r) × ((v.marked p ≡ false) ⊎ eased p r)

-- q isn't a source, and this record at h speaks for it
pub record Speaks (v : View) (eased : Eased) (q h : Path) (r : Record) : Type 0 where
  pub no_source : is_source v q ≡ false
  pub holder : holder v q ≡ Some h
  pub clear : Clear v eased h r

-- For each input of the record that was a product a record speaks now, with the serial recorded, and it hangs together likewise.
pub data Chain (v : View) (eased : Eased) : Record → Type 0 where
  Link :
      (r : Record) (place : Path → ℕ → Path) (by : Path → ℕ → Record) →
      ((q : Path) (m : ℕ) → IsIn (stamped r) (q, Made m) → Speaks v eased q (place q m) (by q m) × ((by q m).made ≡ m)) →
      ((q : Path) (m : ℕ) → IsIn (stamped r) (q, Made m) → Chain v eased (by q m)) → Chain v eased r

abbrev pub has_made : ℕ → Option Record → Bool
has_made m None = false
has_made m (Some r) = r.made == m

-- the content that an input had by its recorded stamp, by V of the record that speaks for it
abbrev pub input_value : View → Versions → (Path → Option Tree) → Path × Stamp → Option Tree
input_value v H V (q, Time t) = option_map File (H q t)
input_value v H V (q, Sum t d) = option_map File (H q t)
input_value v H V (q, Made m) =
    option_and_then (λ h. if has_made m (v.record_at h) then option_and_then (part_at h q) (V h) else None) (holder v q)

-- What act gives at p on the recorded recipe and the inputs as they were by their recorded stamps; for chains of at most n
-- records. It looks at no mark.
abbrev pub vir : View → Act → Versions → ℕ → Path → Option Tree
vir v act H zero p = None
vir v act H (suc n) p = vouched act p (input_value v H (vir v act H n)) (v.record_at p)

-- the tree that stands at p is what its record vouches for
abbrev pub Holds : View → Act → Versions → Path → Record → Type 0
Holds v act H p r = (tree : Tree) × (v.tree p ≡ Some tree) × (vir v act H (suc r.made) p ≡ Some tree)

-- An image is sound for versions H of the sources, some marks not counted in chains.
pub record Sound (act : Act) (H : Versions) (v : View) (eased : Eased) : Type 0 where
  pub has_sources : (p : Path) (f : Content) → source_at v p ≡ Some f → H p f.time ≡ Some f.bytes
  pub has_recorded :
      (p : Path) (r : Record) (q : Path) (s : Stamp) →
      v.record_at p ≡ Some r → v.marked p ≡ false → IsIn (stamped r) (q, s) → HasVersion H q s
  pub holds :
      (p : Path) (r : Record) →
      v.record_at p ≡ Some r → v.marked p ≡ false → Chain v eased r → IsTrue (is_whole v p (kind_in r p)) → Holds v act H p r
