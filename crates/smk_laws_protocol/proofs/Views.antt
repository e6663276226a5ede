-- The view of an image that is a function of places: nothing is searched for by its name.
use Rattle.std.specs.Prelude.{ℕ, ◌&&◌, List, map, filter, length, drop, ◌+◌, if◌then◌else◌, Option, Some, None, option_map, is_some, IsTrue, IsSome}
use Rattle.smk_base.specs.declared.tree.Tree.TheVariants.{File, Folder}
use Rattle.smk_world.specs.declared.event.Node.{Node}
use Rattle.smk_record.specs.declared.record.Record.{Record}
use Rattle.smk_world.specs.Trees.{Path, among, is_path_text}
use Rattle.smk_store.specs.Images.{is_outside, Content, is_directory, bytes_of, kept_by, readable}
use Rattle.smk_base.specs.Path.{is_under}
use Rattle.smk_record.specs.Records.{members_of, core}
use Rattle.smk_laws_protocol.proofs.View.{View, file_of}
use Rattle.smk_world.specs.World.{World, reading, MayLeave, IsRising}
use Rattle.smk_base.specs.Place.{mark_place, record_place, note_place}

abbrev pub Nodes : Type 0
Nodes = Path → Option Node

abbrev pub read_at : (List ℕ → Option Record) → Path → Option Node → Option Record
read_at read p n = readable (kept_by read p n)

abbrev pub path_node : Nodes → Path → Option Node
path_node f p = if is_outside p then f p else None

-- what stands at a place of the engine's own for a path
abbrev pub place_node : Nodes → (Path → Path) → Path → Option Node
place_node f place p = if is_path_text p then f (place p) else None

abbrev pub names_in : List Path → Nodes → Path → List Path
names_in names nodes p = filter (λ q. is_under q p && is_some (nodes q)) names

-- of the nodes at paths, and those at the places of records, marks and notes
abbrev pub view_by : (List ℕ → Option Record) → List Path → Nodes → Nodes → Nodes → Nodes → View
view_by read names nodes records marks notes =
    record {
      file = λ p. file_of (nodes p);
      is_folder = λ p. is_directory (nodes p);
      members = λ p. map (λ q. record { folder = is_directory (nodes q); name = drop (length p + 1) q }) (names_in names nodes p);
      tree = λ p.
          if is_directory (nodes p)
          then Some (Folder (map (λ q. record { name = drop (length p + 1) q; bytes = bytes_of (nodes q) }) (names_in names nodes p)))
          else option_map (λ (x : Content). File x.bytes) (file_of (nodes p));
      has_record = λ p. is_some (records p);
      record_at = λ p. option_map core (read_at read p (records p));
      listed = λ p. members_of (read_at read p (records p));
      marked = λ p. is_some (marks p);
      noted = λ p. is_some (notes p);
    }

abbrev pub view_of : (List ℕ → Option Record) → List Path → Nodes → View
view_of read names f = view_by read names (path_node f) (place_node f record_place) (place_node f mark_place) (place_node f note_place)

abbrev pub reads : World → Nodes
reads w q = reading (w.nodes q)

abbrev pub Leaves : World → Nodes → Type 0
Leaves w f = (q : Path) → MayLeave (w.nodes q) (f q)

-- the names rise, and wherever a node is its name is among them
abbrev pub HasNames : List Path → Nodes → Type 0
HasNames names f = (q : Path) → IsSome (f q) → IsTrue (among names q)

-- P of each image that a crash may leave
abbrev pub EachImage : (List ℕ → Option Record) → World → (View → Type 0) → Type 0
EachImage read w P =
    (names : List Path) (f : Nodes) → IsRising names → HasNames names f → HasNames names (reads w) → Leaves w f → P (view_of read names f)
