-- What is at hand is among the versions.
use Rattle.std.proofs.Common.{◌≡◌, subst, Some}
use Rattle.smk_world.specs.Trees.{Path}
use Rattle.smk_record.specs.declared.record.Stamp.{Stamp}
use Rattle.smk_record.specs.declared.record.Stamp.TheVariants.{Time, Sum, Made}
use Rattle.smk_store.specs.Images.{Content}
use Rattle.smk_store.specs.Trust.{Versions, HasVersion}
use Rattle.smk_store.specs.Soundness.{Outside}
use Rattle.smk_store.proofs.Versions.{has_content}
use Rattle.smk_laws_protocol.proofs.Rows.{IsAtHand, IsSourceOf}
use Rattle.smk_laws_protocol.proofs.View.{View, source_at}

-- what is at hand is among the versions, where the sources are
pub hand_recorded :
    (o : Outside) (H : Versions) (v : View) → ((q : Path) (f : Content) → source_at v q ≡ Some f → H q f.time ≡ Some f.bytes) →
    (x : Path) (s : Stamp) → IsAtHand o v (x, s) → HasVersion H x s
hand_recorded o H v has x s hand = go s hand
  where
    of_source : (s : Stamp) → IsSourceOf o v x s → HasVersion H x s
    of_source s hand = subst (HasVersion H x) hand.2 (has_content H x hand.0 (has x hand.0 hand.1))

    go : (s : Stamp) → IsAtHand o v (x, s) → HasVersion H x s
    go (Time t) hand = of_source (Time t) hand
    go (Sum t d) hand = of_source (Sum t d) hand
    go (Made m) hand = tt
