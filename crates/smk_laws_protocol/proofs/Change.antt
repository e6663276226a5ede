-- A change of the world that an open job's event makes: how each image after it comes from one before it.
use Rattle.std.proofs.Common.{◌≡◌, ◌⊎◌, ◌≤◌, ℕ, true, List, Option}
use Rattle.std.specs.Prelude.{◌||◌, false}
use Rattle.std.specs.List.{list_any}
use Rattle.smk_record.specs.declared.record.Record.{Record}
use Rattle.smk_world.specs.declared.event.Node.{Node}
use Rattle.smk_world.specs.Trees.{Path, IsIn}
use Rattle.smk_base.specs.Path.{overlaps}
use Rattle.smk_store.specs.Trust.{Versions, Eased, none_eased}
use Rattle.smk_laws_protocol.proofs.View.{View, Clear, Sound}
use Rattle.smk_laws_protocol.proofs.Views.{Nodes, EachImage, view_of}
use Rattle.smk_world.specs.World.{World, IsFormed, firmly}
use Rattle.smk_base.specs.Place.{mark_place, note_place}
use Rattle.smk_store.specs.Soundness.{Outside}
use Rattle.smk_laws_protocol.specs.Protocol.{OpenJob, own, outputs, record_of}
use Rattle.smk_laws_protocol.proofs.Rows.{now}
use Rattle.smk_world.specs.Calls.{are_apart}
use Rattle.smk_laws_protocol.proofs.Between.{HasSources, HasNoNew, HasNoRecordClash}
use Rattle.smk_record.specs.Records.{serials}
use Rattle.smk_laws_protocol.proofs.Moves.{SameAt, Counted}
use Rattle.smk_laws_protocol.proofs.Naming.{IsImage, IsWide}

pub record SameRecord (v v' : View) (x : Path) : Type 0 where
  pub has : v'.has_record x ≡ v.has_record x
  pub at : v'.record_at x ≡ v.record_at x
  pub listed : v'.listed x ≡ v.listed x

-- what the steps need of a job whose event it is: records that overlap its paths are its outputs', its paths are apart, and the serials of
-- its record are at most the greatest
pub record IsOwner (o : Outside) (top : ℕ) (w : World) (j : OpenJob) : Type 0 where
  pub no_record_clash : EachImage o.read w (HasNoRecordClash o j)
  pub apart : are_apart (own j) ≡ true
  pub numbers_low : (p : Path) (n : ℕ) → IsIn (serials (record_of j p)) n → n ≤ top

-- The views differ only at what the job owns: in nodes at what overlaps its paths, in records and marks at its outputs.
pub record Differs (j : OpenJob) (v v' : View) : Type 0 where
  pub nodes : (x : Path) → list_any (overlaps x) (own j) ≡ false → SameAt v v' x
  pub records : (x : Path) → (IsIn (outputs j) x → ⊥) → SameRecord v v' x
  pub marks : (x : Path) → (IsIn (outputs j) x → ⊥) → v'.marked x ≡ v.marked x

-- Where a record counts now, one that vouches for the same counted before; or it is the job's own new record.
abbrev pub Counts : Versions → OpenJob → View → Eased → View → Eased → Type 0
Counts H j v e v' e' = (q : Path) (r : Record) → Clear v' e' q r → Counted H v e q r ⊎ IsIn (outputs j) q × (r ≡ record_of j q)

pub record Change (o : Outside) (entry : World) (H : Versions) (j : OpenJob) (e e' : Eased) (w w' : World) : Type 0 where
  pub formed : IsFormed w'
  pub before : Nodes → Nodes
  pub image : (names : List Path) (g : Nodes) → IsWide w w' names g → IsImage w names (before g)
  pub differs : (names : List Path) (g : Nodes) → IsWide w w' names g → Differs j (view_of o.read names (before g)) (view_of o.read names g)
  pub counts : (names : List Path) (g : Nodes) → IsWide w w' names g → Counts H j (view_of o.read names (before g)) e (view_of o.read names g) e'
  pub differs_now : Differs j (now o w) (now o w')
  pub counts_now : Counts H j (now o w) none_eased (now o w') none_eased
  pub known_own : (names : List Path) (g : Nodes) → IsWide w w' names g → (q : Path) → IsIn (outputs j) q → (view_of o.read names g).has_record q ≡ true → ((now o w').has_record q || (now o w').marked q) ≡ true
  pub no_new : EachImage o.read w' (HasNoNew o (now o w'))
  pub sound : EachImage o.read w' (λ v. Sound o.act H v e')
  pub sources : EachImage o.read w' (HasSources o (now o entry))
  -- marks and notes of other jobs that are firm stay so
  pub mark_places : (x : Path) → (IsIn (outputs j) x → ⊥) → (n : Option Node) → w.nodes (mark_place x) ≡ firmly n → w'.nodes (mark_place x) ≡ firmly n
  pub note_places : (x : Path) → (IsIn (own j) x → ⊥) → (n : Option Node) → w.nodes (note_place x) ≡ firmly n → w'.nodes (note_place x) ≡ firmly n
