-- What soundness refuses: other bytes under a whole record; a time of which no version is known; two records of which one lies under
-- the other; and a mark that is taken away before the output is firm.
use Rattle.std.proofs.Common.{inl, inr, arith, ap, true≢false, sym}
use Rattle.std.specs.Prelude.{◌≡◌, ℕ, Bool, true, false, List, [], ◌∷◌, codes, Option, Some, None, refl, bytes_eq, cond, ◌&&◌, ◌==◌, if◌then◌else◌, IsSome}
use Rattle.std.specs.List.Sorted.{IsStrictlySortedBy}
use Rattle.smk_base.specs.Place.{record_place}
use Rattle.smk_base.specs.declared.tree.Tree.{Tree}
use Rattle.smk_base.specs.declared.tree.Tree.TheVariants.{File}
use Rattle.smk_world.specs.declared.event.Node.{Node}
use Rattle.smk_world.specs.declared.event.Node.TheVariants.{Regular}
use Rattle.smk_world.specs.declared.event.NodeState.TheVariants.{Known}
use Rattle.smk_world.specs.declared.event.Besides.TheVariants.{Anything}
use Rattle.smk_world.specs.World.{World, Nodes, Leaves, MayLeave, firmly, node_in}
use Rattle.smk_world.specs.Trees.{Path, IsIn}
use Rattle.smk_record.specs.declared.record.Stamp.{Stamp}
use Rattle.smk_record.specs.declared.record.Stamp.TheVariants.{Time, Sum, Made}
use Rattle.smk_record.specs.declared.record.Record.{Record}
use Rattle.smk_record.specs.Records.{stamped}
use Rattle.smk_store.specs.Images.{Image, image_of}
use Rattle.smk_store.specs.Trust.{none_eased, Chain, Link, any_source, Versions, Vir}
use Rattle.smk_store.specs.Soundness.{Outside, Sound, SoundWorld}
use Rattle.smk_flow.proofs.Examples.{commands}
use Rattle.smk_chain.proofs.Folders.{file, image_with}
use Rattle.smk_plan.proofs.Plans.{after_copy, copy_records}

-- a record none of whose inputs was a product hangs together
pub no_products :
    (image : Image) (r : Record) → ((q : Path) (m : ℕ) → IsIn (stamped r) (q, Made m) → ⊥) → Chain image none_eased any_source r
no_products image r none =
    Link r (λ q m. q) (λ q m. r) (λ q s i k. tt) (λ q m i. absurd (none q m i)) (λ q m i. absurd (none q m i))

abbrev pub is_time : Path × Stamp → Bool
is_time (q, Time t) = true
is_time (q, Sum t d) = true
is_time (q, Made m) = false

pub one_time : (p : Path) (t : ℕ) (q : Path) (m : ℕ) → IsIn {A = Path × Stamp} ((p, Time t) ∷ []) (q, Made m) → ⊥
one_time p t q m (inl e) = true≢false (sym (ap is_time e))
one_time p t q m (inr i) = i

-- the source had these bytes at its time
abbrev pub hello_at : Versions
hello_at p t = if bytes_eq p (codes "in.txt") && (t == 1000) then Some (codes "hello\n") else None

pub differ : (t : Tree) → Some (File (codes "help\n")) ≡ Some t → Some (File (codes "hello\n")) ≡ Some t → ⊥
differ t a b = grind arith

-- ## Other bytes

abbrev other_bytes : Image
other_bytes =
    image_with (file (codes "in.txt") 1000 (codes "hello\n") ∷ file (codes "out.txt") 1001 (codes "help\n") ∷ []) copy_records []

pub other_bytes_refused : Sound commands hello_at other_bytes none_eased → ⊥
other_bytes_refused sound =
    let h = sound.holds (codes "out.txt") _ refl refl (no_products other_bytes _ (one_time (codes "in.txt") 1000)) refl in
    differ h.0 h.1 h.2

-- the record vouches for the copy
pub vouches_for_copy : Vir (after_copy 1000) commands hello_at (codes "out.txt") ≡ Some (File (codes "hello\n"))
vouches_for_copy = refl

-- ## No version

abbrev no_versions : Versions
no_versions p t = None

-- the source is gone, and nobody knows what it was at the recorded time
abbrev source_gone : Image
source_gone = image_with (file (codes "out.txt") 1001 (codes "hello\n") ∷ []) copy_records []

none_is : IsSome {T = List ℕ} None → ⊥
none_is h = grind arith

pub no_version_refused : Sound commands no_versions source_gone none_eased → ⊥
no_version_refused sound = none_is (sound.has_recorded (codes "out.txt") _ (codes "in.txt") (Time 1000) (refl, inl refl) (inl refl))

-- ## Two records

abbrev with_another : List Record → List Record
with_another [] = []
with_another (r ∷ rs) = r ∷ record r { path = codes "out.txt/d" } ∷ []

abbrev under_another : Image
under_another = image_with [] (with_another copy_records) []

two_paths : codes "out.txt" ≡ codes "out.txt/d" → ⊥
two_paths h = true≢false (ap (bytes_eq (codes "out.txt")) h)

pub nested_refused : Sound commands hello_at under_another none_eased → ⊥
nested_refused sound = two_paths (sound.none_nested (codes "out.txt") (codes "out.txt/d") refl refl refl)

-- ## A mark gone too early

abbrev pub spelled : List ℕ
spelled = codes "out.txt"

abbrev pub first_record : List Record → Option Record
first_record [] = None
first_record (r ∷ rs) = Some r

abbrev pub outside : Outside
outside = record { read = λ bytes. if bytes_eq bytes spelled then first_record copy_records else None; act = commands }

-- the record stands, no mark does, and the output is torn
abbrev pub torn : Nodes
torn =
    (record_place (codes "out.txt"), Regular spelled 1002 false)
    ∷ (codes "in.txt", Regular (codes "hello\n") 1000 false)
    ∷ (codes "out.txt", Regular (codes "help\n") 1001 false)
    ∷ []

-- the world in which the mark was removed before the output was settled
abbrev too_early : World
too_early =
    record {
      names = record_place (codes "out.txt") ∷ codes "in.txt" ∷ codes "out.txt" ∷ [];
      nodes = λ q. cond (bytes_eq q (codes "out.txt")) (Known (Some (Regular (codes "hello\n") 1001 false)) Anything) (firmly (node_in torn q));
      children = [];
      log = [];
    }

may_leave : (b : Bool) (n : Option Node) → MayLeave (cond b (Known (Some (Regular (codes "hello\n") 1001 false)) Anything) (firmly n)) n
may_leave true n = inr tt
may_leave false n = inl refl

leaves_torn : Leaves too_early torn
unfolding IsStrictlySortedBy
leaves_torn = record {
  each = λ q. may_leave (bytes_eq q (codes "out.txt")) (node_in torn q);
  rising = ((refl, (refl, tt)), ((refl, tt), (tt, tt)));
}

pub too_early_refused : SoundWorld outside too_early hello_at → ⊥
too_early_refused sound =
    let image = image_of outside.read torn in
    let i = sound.after_crash torn leaves_torn in
    let h = i.holds (codes "out.txt") _ refl refl (no_products image _ (one_time (codes "in.txt") 1000)) refl in
    differ h.0 h.1 h.2
