-- Images, stamps and vouched values, computed.
use Rattle.std.specs.Prelude.{◌≡◌, ℕ, true, false, List, [], ◌∷◌, codes, Option, Some, None, refl, bytes_eq, ◌&&◌, ◌==◌, if◌then◌else◌}
use Rattle.smk_base.specs.Place.{record_place, mark_place, note_place, lock_place}
use Rattle.smk_base.specs.declared.tree.Tree.TheVariants.{File}
use Rattle.smk_world.specs.declared.event.Node.TheVariants.{Regular, Directory}
use Rattle.smk_world.specs.World.{Nodes, world_of}
use Rattle.smk_record.specs.declared.record.Stamp.TheVariants.{Sum, Made}
use Rattle.smk_record.specs.declared.record.Record.{Record}
use Rattle.smk_store.specs.declared.store.Kept.TheVariants.{Absent, Unreadable}
use Rattle.smk_store.specs.Images.{Image, image_of, seen, sources, is_covered, holds_source, is_whole_member, tree_now}
use Rattle.smk_store.specs.Trust.{Versions, Vir, stamp_now, sum_of}
use Rattle.smk_flow.proofs.Examples.{commands}
use Rattle.smk_chain.proofs.Folders.{image_with, file}
use Rattle.smk_plan.proofs.Plans.{all_clustered, member_gone, copy_records}

-- ## From nodes to an image

abbrev no_record : List ℕ → Option Record
no_record bytes = None

-- a file of the user's, a record that doesn't read, a mark, a note of a log in a folder, the lock, and a name that stands for nothing
abbrev nodes : Nodes
nodes =
    (lock_place, Regular [] 1 false)
    ∷ (note_place (codes "logs/a.log"), Regular [] 1 false)
    ∷ (mark_place (codes "b"), Regular [] 1 false)
    ∷ (codes ".snakemake/smk/records/+c", Regular [] 1 false)
    ∷ (record_place (codes "a"), Regular [] 1 false)
    ∷ (codes "a", Regular [] 1 false)
    ∷ (codes "in.txt", Regular [] 1 false)
    ∷ (codes "logs", Directory)
    ∷ (codes "logs/a.log", Regular [] 1 false)
    ∷ []

abbrev image : Image
image = image_of no_record nodes

pub names_are : image.names ≡ codes "a" ∷ codes "in.txt" ∷ codes "logs" ∷ codes "logs/a.log" ∷ []
names_are = refl

pub known_are : image.known ≡ codes "a" ∷ codes "b" ∷ codes "logs/a.log" ∷ []
known_are = refl

pub kept_are : (image.kept (codes "a") ≡ Unreadable) × (image.kept (codes "b") ≡ Absent) × (image.marked (codes "b") ≡ true) × (image.noted (codes "logs/a.log") ≡ true) × (image.locked ≡ true)
kept_are = (refl, refl, refl, refl, refl)

-- products and logs are no sources
pub sources_are : sources image ≡ codes "in.txt" ∷ []
sources_are = refl

pub covered : is_covered image (codes "b/c") ≡ true
covered = refl

pub holds : holds_source image (codes "in.txt/x") ∷ holds_source image (codes "logs") ∷ [] ≡ true ∷ false ∷ []
holds = refl

-- the world of these nodes reads as they do
pub reads_same : seen no_record (world_of nodes) ≡ image
reads_same = refl

-- ## Stamps

pub source_stamp : stamp_now all_clustered (codes "samples/a.txt") ≡ Some (Sum 1 (sum_of (codes "x\ny\nz\n")))
source_stamp = refl

pub product_stamp : stamp_now all_clustered (codes "post/a/2.txt") ≡ Some (Made 3)
product_stamp = refl

-- of a member, by the record of its directory
pub member_stamp : stamp_now all_clustered (codes "clustering/a/2.txt") ≡ Some (Made 1)
member_stamp = refl

pub no_stamp : stamp_now all_clustered (codes "other") ≡ None
no_stamp = refl

pub marked_stamp :
    stamp_now (image_with (file (codes "out.txt") 1 [] ∷ []) copy_records (codes "out.txt" ∷ [])) (codes "out.txt") ≡ None
marked_stamp = refl

pub whole_members :
    is_whole_member all_clustered (codes "clustering/a") (codes "clustering/a/2.txt")
    ∷ is_whole_member member_gone (codes "clustering/a") (codes "clustering/a/1.txt")
    ∷ [] ≡ true ∷ false ∷ []
whole_members = refl

-- ## Vouched values

abbrev three_at : Versions
three_at p t = if bytes_eq p (codes "samples/a.txt") && (t == 1) then Some (codes "x\ny\nz\n") else None

-- along the whole chain, through the directory and its members
pub vouched : Vir all_clustered commands three_at (codes "aggregated/a.txt") ≡ Some (File (codes "x\ny\nz\n"))
vouched = refl

-- also where a file on the way is gone
pub vouched_still : Vir member_gone commands three_at (codes "post/a/2.txt") ≡ Some (File (codes "y\n"))
vouched_still = refl

pub vouched_not : Vir all_clustered commands (λ p t. None) (codes "aggregated/a.txt") ≡ None
vouched_not = refl

pub vouched_tree : Vir all_clustered commands three_at (codes "clustering/a") ≡ tree_now all_clustered (codes "clustering/a")
vouched_tree = refl
