-- A record that counts in its place is valid, and it is its path's own.
use Rattle.std.proofs.Common.{◌≡◌, ℕ, Bool, true, false, cond, List, Option, Some, None, refl, subst, ◌&&◌, bytes_eq, IsTrue}
use Rattle.std.specs.Prelude.{nat_le, length}
use Rattle.smk_base.proofs.Places.{and_first, and_second, same_place}
use Rattle.smk_world.specs.declared.event.Node.{Node}
use Rattle.smk_world.specs.declared.event.Node.TheVariants.{Regular, Directory}
use Rattle.smk_world.specs.Trees.{Path}
use Rattle.smk_record.specs.declared.record.Record.{Record}
use Rattle.smk_record.specs.Records.{is_valid}
use Rattle.smk_store.specs.declared.store.Kept.TheVariants.{Unreadable, Held}
use Rattle.smk_store.specs.Images.{readable, for_path, kept_by}

some_is : {A : Type 0} (x y : A) → Some x ≡ Some y → x ≡ y
some_is x y h = cc

no_some : {A : Type 0} {B : Type 0} (x : A) → None ≡ Some x → B
no_some x h = absurd (none x h)
  where
    none : {A : Type 0} (x : A) → None ≡ Some x → ⊥
    none x h = cc

abbrev pub IsOwn : Path → Record → Type 0
IsOwn p r = (r.path ≡ p) × IsTrue (is_valid r)

held : (p : Path) (o : Option Record) (r : Record) → readable (for_path p o) ≡ Some r → IsOwn p r
held p None r h = no_some r h
held p (Some s) r h = go (bytes_eq s.path p && is_valid s) refl h
  where
    go : (b : Bool) → (bytes_eq s.path p && is_valid s) ≡ b → readable (cond b (Held s) Unreadable) ≡ Some r → IsOwn p r
    go false e k = no_some r k
    go true e k = subst (IsOwn p) (some_is s r k) (same_place s.path p (and_first _ _ e), and_second (bytes_eq s.path p) _ e)

of_bytes : (read : List ℕ → Option Record) (p : Path) (b : Bool) (bytes : List ℕ) (r : Record) → readable (cond b (for_path p (read bytes)) Unreadable) ≡ Some r → IsOwn p r
of_bytes read p true bytes r h = held p (read bytes) r h
of_bytes read p false bytes r h = no_some r h

pub of_node : (read : List ℕ → Option Record) (p : Path) (n : Option Node) (r : Record) → readable (kept_by read p n) ≡ Some r → IsOwn p r
of_node read p None r h = no_some r h
of_node read p (Some Directory) r h = no_some r h
of_node read p (Some (Regular bytes time read_only)) r h = of_bytes read p (nat_le (length bytes) 33554432) bytes r h
