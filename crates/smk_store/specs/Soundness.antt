-- Sound images and sound worlds.
use Rattle.std.specs.Prelude.{◌≡◌, ◌||◌, ℕ, true, false, List, [], Option, Some, option_map, IsTrue, IsSome}
use Rattle.smk_base.specs.Path.{overlaps}
use Rattle.smk_base.specs.declared.tree.Tree.{Tree}
use Rattle.smk_world.specs.World.{World, Nodes, IsFormed, Leaves}
use Rattle.smk_world.specs.Calls.{HasOwners}
use Rattle.smk_world.specs.Trees.{Path, Act, IsIn, kind_in}
use Rattle.smk_record.specs.declared.record.Stamp.{Stamp}
use Rattle.smk_record.specs.declared.record.Record.{Record}
use Rattle.smk_record.specs.Records.{stamped}
use Rattle.smk_store.specs.Images.{Content, Image, image_of, seen, stands, source_at, core_at, record_at, is_whole, tree_now}
use Rattle.smk_store.specs.Trust.{Eased, none_eased, Clear, Chain, any_source, Versions, HasVersion, Vir}

-- a tree stands at p, and it is what the record of p vouches for
abbrev pub Holds : Act → Versions → Image → Path → Type 0
Holds act H image p = (tree : Tree) × (tree_now image p ≡ Some tree) × (Vir image act H p ≡ Some tree)

-- An image is sound for versions H of the sources; some marks may not count in chains.
pub record Sound (act : Act) (H : Versions) (image : Image) (eased : Eased) : Type 0 where
  -- H has each source as it is
  pub has_sources : (p : Path) (f : Content) → source_at image p ≡ Some f → H p f.time ≡ Some f.bytes
  -- and each source as a record that counts tells of it, by its time and SHA-256
  pub has_recorded :
      (p : Path) (r : Record) (q : Path) (s : Stamp) →
      Clear image eased p r → IsIn (stamped r) (q, s) → HasVersion H q s
  -- each whole output whose unmarked record hangs together holds what its record vouches for
  pub holds :
      (p : Path) (r : Record) →
      core_at image p ≡ Some r →
      image.marked p ≡ false → Chain image eased any_source r → IsTrue (is_whole image p (kind_in r.recipe p)) → Holds act H image p
  -- no two records overlap, so that at most one speaks for a path
  pub none_nested : (p q : Path) → IsSome (core_at image p) → IsSome (core_at image q) → IsTrue (overlaps p q) → p ≡ q

-- what is given outside: how bytes read as a record, and what commands do
pub record Outside : Type 0 where
  pub read : List ℕ → Option Record
  pub act : Act

-- P of every image that a crash may leave
abbrev pub EachImage : (List ℕ → Option Record) → World → (Image → Type 0) → Type 0
EachImage read w P = (nodes : Nodes) → Leaves w nodes → P (image_of read nodes)

-- all of a source that counts: its bytes and its time
abbrev pub told : Content → List ℕ × ℕ
told f = (f.bytes, f.time)

-- the same sources: paths, bytes and times
abbrev pub SameSources : Image → Image → Type 0
SameSources a b = (p : Path) → option_map told (source_at b p) ≡ option_map told (source_at a p)

-- no unmarked record stands in b that a lacks
abbrev pub NoNewRecord : Image → Image → Type 0
NoNewRecord a b = (p : Path) (r : Record) → record_at b p ≡ Some r → b.marked p ≡ false → record_at a p ≡ Some r

-- what b has a record of has a record or a mark in a
abbrev pub HasKnown : Image → Image → Type 0
HasKnown a b = (p : Path) → stands (b.kept p) ≡ true → (stands (a.kept p) || a.marked p) ≡ true

-- A world is sound where it, as it reads, and whatever a crash leaves of it is sound, with the same sources, no further unmarked
-- record, and no record of a path of which the world tells nothing; and no child runs or owns a place.
pub record SoundWorld (o : Outside) (w : World) (H : Versions) : Type 0 where
  pub formed : IsFormed w
  pub now : Sound o.act H (seen o.read w) none_eased
  pub after_crash : EachImage o.read w (λ i. Sound o.act H i none_eased)
  pub same_sources : EachImage o.read w (SameSources (seen o.read w))
  pub no_new_record : EachImage o.read w (NoNewRecord (seen o.read w))
  pub known : EachImage o.read w (HasKnown (seen o.read w))
  pub no_child : w.children ≡ []
  pub owners : HasOwners w
