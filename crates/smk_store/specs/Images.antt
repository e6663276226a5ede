-- An image of the working folder, by the paths that it is about, and its sources.
use Rattle.std.specs.Prelude.{ℕ, Bool, true, false, ◌&&◌, ◌||◌, not, List, [], ◌∷◌, ◌++◌, map, filter, length, drop, nat_le, bytes_eq, codes, if◌then◌else◌, Option, Some, None, option_map, is_some}
use Rattle.std.specs.List.{list_any, flat_map}
use Rattle.smk_base.specs.Path.{parts, own_folder, is_under, is_at_or_under, overlaps}
use Rattle.smk_base.specs.Place.{name_of, record_place, mark_place, note_place, lock_place}
use Rattle.smk_base.specs.declared.tree.Tree.{Tree}
use Rattle.smk_base.specs.declared.tree.Tree.TheVariants.{File, Folder}
use Rattle.smk_base.specs.declared.tree.TreeEntry.{TreeEntry}
use Rattle.smk_world.specs.declared.event.Node.{Node}
use Rattle.smk_world.specs.declared.event.Node.TheVariants.{Regular, Directory}
use Rattle.smk_world.specs.declared.recipe.Kind.{Kind}
use Rattle.smk_world.specs.declared.recipe.Kind.TheVariants.{Plain, Folder as FolderKind}
use Rattle.smk_world.specs.World.{World, Nodes, node_in, places_in, reading, folders_above, add_names}
use Rattle.smk_world.specs.Trees.{Path, is_path_text, below}
use Rattle.smk_record.specs.declared.record.Member.{Member}
use Rattle.smk_record.specs.declared.record.Record.{Record}
use Rattle.smk_record.specs.Records.{is_valid, members_of, same_member, core}
use Rattle.smk_store.specs.declared.store.Kept.{Kept}
use Rattle.smk_store.specs.declared.store.Kept.TheVariants.{Absent, Unreadable, Held}
use lib.Pointwise.{pointwise}

-- a regular file
pub record Content : Type 0 where
  pub bytes : List ℕ
  pub time : ℕ
  pub read_only : Bool

-- The folder as it stands: what stands at each place outside `.snakemake`, and which of these have something, in byte order; what is kept of a path; which
-- paths have a mark or a note; the paths with a record, a mark or a note, in byte order; and whether the lock is there.
pub record Image : Type 0 where
  pub names : List Path
  pub node : Path → Option Node
  pub kept : Path → Kept
  pub marked : Path → Bool
  pub noted : Path → Bool
  pub known : List Path
  pub locked : Bool

-- ## Files and folders

abbrev pub content_of : Option Node → Option Content
content_of None = None
content_of (Some Directory) = None
content_of (Some (Regular bytes time read_only)) = Some (record { bytes = bytes; time = time; read_only = read_only })

abbrev pub is_directory : Option Node → Bool
is_directory None = false
is_directory (Some Directory) = true
is_directory (Some (Regular bytes time read_only)) = false

abbrev pub bytes_of : Option Node → Option (List ℕ)
bytes_of n = option_map (λ (f : Content). f.bytes) (content_of n)

abbrev pub stands : Kept → Bool
stands Absent = false
stands Unreadable = true
stands (Held r) = true

abbrev pub readable : Kept → Option Record
readable Absent = None
readable Unreadable = None
readable (Held r) = Some r

module _ (image : Image) where
  -- the file at a path
  abbrev pub file_at : Path → Option Content
  file_at p = content_of (image.node p)

  abbrev pub is_file : Path → Bool
  is_file p = is_some (file_at p)

  abbrev pub is_folder : Path → Bool
  is_folder p = is_directory (image.node p)

  -- the names under a folder
  abbrev pub names_under : Path → List Path
  names_under p = filter (λ q. is_under q p) image.names

  -- all that is under a folder, by its place in it
  abbrev pub members_under : Path → List Member
  members_under p = map (λ q. record { folder = is_folder q; name = below p q }) (names_under p)

  abbrev pub entry_under : Path → Path → TreeEntry
  entry_under p q = record { name = below p q; bytes = bytes_of (image.node q) }

  -- the tree that stands at a path
  abbrev pub tree_now : Path → Option Tree
  tree_now p = if is_folder p then Some (Folder (map (entry_under p) (names_under p))) else option_map File (bytes_of (image.node p))

  -- ## Records

  -- the record of a path, where it reads
  abbrev pub record_at : Path → Option Record
  record_at p = readable (image.kept p)

  -- the same but for its members
  abbrev pub core_at : Path → Option Record
  core_at p = option_map core (record_at p)

  -- An output is whole where a file is there; or a directory, where a folder is there with exactly the recorded members.
  abbrev pub is_whole : Path → Kind → Bool
  is_whole p Plain = is_file p
  is_whole p FolderKind = is_folder p && (is_some (record_at p) && pointwise same_member (members_under p) (members_of (record_at p)))

  -- the directory is whole and has the path as a file
  abbrev pub is_whole_member : Path → Path → Bool
  is_whole_member folder p = is_whole folder FolderKind && is_file p

  -- ## Sources

  -- a record, a mark or a note stands there
  abbrev pub is_known : Path → Bool
  is_known p = stands (image.kept p) || (image.marked p || image.noted p)

  -- so it is at the path or at a folder above it
  abbrev pub is_covered : Path → Bool
  is_covered p = is_known p || list_any is_known (folders_above p)

  -- a path at which a file is there that isn't covered
  abbrev pub is_source : Path → Bool
  is_source p = is_path_text p && (is_file p && not (is_covered p))

  -- the source there
  abbrev pub source_at : Path → Option Content
  source_at p = if is_source p then file_at p else None

  abbrev pub sources : List Path
  sources = filter is_source image.names

  -- a source equals the path, lies under it or is a folder part above it
  abbrev pub holds_source : Path → Bool
  holds_source p = list_any (overlaps p) sources

-- ## From nodes to an image

-- outside the engine's own folder
abbrev pub is_outside : Path → Bool
is_outside q = not (is_at_or_under q own_folder)

-- the path whose name is this, if it is one: the sign of each part is taken away
abbrev pub without_signs : List Path → Path
without_signs [] = []
without_signs ([] ∷ rest) = []
without_signs ((sign ∷ part) ∷ []) = part
without_signs ((sign ∷ part) ∷ (next ∷ rest)) = part ++ 47 ∷ without_signs (next ∷ rest)

-- the path of which the place in this folder tells
abbrev pub told_of : Path → Path → List Path
told_of folder place =
    let p = without_signs (parts (drop (length folder) place)) in
    if bytes_eq place (folder ++ name_of p) && is_path_text p then p ∷ [] else []

-- the path of which a place tells as one of a record, of a mark or of a note
abbrev pub known_by : Path → List Path
known_by place =
    told_of (codes ".snakemake/smk/records/") place
    ++ (told_of (codes ".snakemake/smk/marks/") place ++ told_of (codes ".snakemake/smk/logs/") place)

-- a record counts at its own path, where it is valid
abbrev pub for_path : Path → Option Record → Kept
for_path p None = Unreadable
for_path p (Some r) = if bytes_eq r.path p && is_valid r then Held r else Unreadable

module _ (read : List ℕ → Option Record) where
  -- the record of p by what stands in its place; a file of more than 33,554,432 bytes isn't read
  abbrev pub kept_by : Path → Option Node → Kept
  kept_by p None = Absent
  kept_by p (Some Directory) = Unreadable
  kept_by p (Some (Regular bytes time read_only)) = if nat_le (length bytes) 33554432 then for_path p (read bytes) else Unreadable

  -- The image of nodes that are a function of their places, among these names.
  abbrev pub image_by : List Path → (Path → Option Node) → Image
  image_by names nodes =
      record {
        names = filter (λ q. is_outside q && is_some (nodes q)) names;
        node = λ p. if is_outside p then nodes p else None;
        kept = λ p. if is_path_text p then kept_by p (nodes (record_place p)) else Absent;
        marked = λ p. is_path_text p && is_some (nodes (mark_place p));
        noted = λ p. is_path_text p && is_some (nodes (note_place p));
        known = add_names (flat_map known_by (filter (λ q. is_some (nodes q)) names)) [];
        locked = is_some (nodes lock_place);
      }

  -- the image of finitely many nodes
  abbrev pub image_of : Nodes → Image
  image_of nodes = image_by (places_in nodes) (node_in nodes)

  -- the world as it reads
  abbrev pub seen : World → Image
  seen w = image_by w.names (λ q. reading (w.nodes q))
