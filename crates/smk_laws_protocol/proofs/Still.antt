-- An event after which each image is one before it, and all reads the same: looks, settling, and calls that did nothing.
use Rattle.std.proofs.Common.{◌≡◌, ℕ, Bool, refl, ap, subst, ◌∙◌, Option}
use Rattle.smk_world.specs.declared.event.Node.{Node}
use Rattle.smk_record.specs.declared.record.Record.{Record}
use Rattle.smk_world.specs.Trees.{Path}
use Rattle.smk_store.specs.Trust.{Versions, Eased}
use Rattle.smk_laws_protocol.proofs.Views.{HasNames, reads}
use Rattle.smk_world.specs.World.{World, IsFormed, MayLeave, reading, firmly}
use Rattle.smk_base.specs.Place.{mark_place, note_place}
use Rattle.smk_store.specs.Soundness.{Outside}
use Rattle.smk_laws_protocol.specs.Protocol.{OpenJob}
use Rattle.smk_laws_protocol.proofs.Between.{Images}
use Rattle.smk_laws_protocol.proofs.Change.{Change}
use Rattle.smk_laws_protocol.proofs.Naming.{NamesLaws}
use Rattle.smk_laws_protocol.proofs.Turns.{same_change}

module _
    (o : Outside) (naming : NamesLaws o.read) (entry : World) (H : Versions) (j : OpenJob) (e e' : Eased) (top : ℕ) (steady : Bool) (w w' : World)
    (m : Images o entry H e top steady w) (fewer : (p : Path) (r : Record) → e' p r → e p r) (formed : IsFormed w') (covered : HasNames w'.names (reads w)) where
  pub fewer_change :
      ((q : Path) (n : Option Node) → MayLeave (w'.nodes q) n → MayLeave (w.nodes q) n) → ((q : Path) → reads w' q ≡ reads w q) →
      ((q : Path) (n : Option Node) → w.nodes q ≡ firmly n → w'.nodes q ≡ firmly n) → Change o entry H j e e' w w'
  fewer_change leaves same firm =
      same_change o naming entry H j e e' top steady w w'
      (record {
        formed = formed;
        covered = covered;
        before = λ g. g;
        image = λ names g i. record { rising = i.image.rising; complete = i.image.complete; covered = i.before; leaves = λ q. leaves q (g q) (i.image.leaves q) };
        back = same;
      })
      m fewer (λ names g i. refl) (λ x n k. firm (mark_place x) n k) (λ x n k. firm (note_place x) n k)

  pub still_change : ((q : Path) → w'.nodes q ≡ w.nodes q) → Change o entry H j e e' w w'
  still_change same = fewer_change (λ q n h. subst (λ s. MayLeave s n) (same q) h) (λ q. ap reading (same q)) (λ q n h. same q ∙ h)
