-- In a run of the protocol the folder as it reads is sound, where the marks of unfinished Restores don't count.
use Rattle.std.proofs.Common.{◌≡◌, ◌⊎◌, ℕ, List, sym, subst, inl, inr}
use Rattle.smk_world.specs.declared.event.Event.{Event}
use Rattle.smk_world.specs.World.{World, run}
use Rattle.smk_world.specs.Runs.{Follows}
use Rattle.smk_world.specs.Trees.{IsIn, Path}
use Rattle.smk_record.specs.declared.record.Record.{Record}
use Rattle.smk_record.specs.declared.record.Stamp.{Stamp}
use Rattle.smk_record.specs.Records.{stamped}
use Rattle.smk_store.specs.Images.{seen}
use Rattle.smk_store.specs.Soundness.{Outside, Sound, SoundWorld}
use Rattle.smk_store.specs.Trust.{HasVersion, SumsDiffer, Versions}
use Rattle.smk_laws_protocol.specs.Protocol.{RunState, Runs, eased, record_of}
use Rattle.smk_laws_protocol.specs.Midway.{IsTop, at_entry}
use Rattle.smk_laws_protocol.proofs.Basics.{each_in}
use Rattle.smk_laws_protocol.proofs.Between.{HasNoNested, Midway, VouchesLike}
use Rattle.smk_laws_protocol.proofs.Like.{AreLike}
use Rattle.smk_laws_protocol.proofs.Naming.{each_image, now_image}
use Rattle.smk_laws_protocol.proofs.ProtocolHolds.{reached}
use Rattle.smk_laws_protocol.proofs.SoundViews.{sound_from}
use Rattle.smk_laws_protocol.proofs.SoundWorlds.{now_is}
use Rattle.smk_laws_protocol.proofs.View.{Sound as ViewSound}
use Rattle.smk_laws_protocol.proofs.Views.{reads}
pub use Rattle.smk_laws_complete.proofs.Fewer.{sound_fewer}

module _ (o : Outside) (entry : World) (H : Versions) (s : RunState) (w : World) (m : Midway o entry H s w) where
  -- a Restore has looked at the record that it found, and has at hand what it writes in its place
  told : (p : Path) (r : Record) (q : Path) (x : Stamp) → eased s p r → IsIn (stamped r) (q, x) → HasVersion H q x
  told p r q x e i = go e.3.is
    where
      alike : AreLike H e.3.found (record_of e.0 p)
      alike = each_in (VouchesLike o H) s.jobs e.0 m.like e.1 p e.3.found e.3.kept

      go : (r ≡ e.3.found) ⊎ (r ≡ record_of e.0 p) → HasVersion H q x
      go (inl is) = alike.had q x (subst (λ (y : Record). IsIn (stamped y) (q, x)) is i)
      go (inr is) = alike.has q x (subst (λ (y : Record). IsIn (stamped y) (q, x)) is i)

  sound_here : Sound o.act H (seen o.read w) (eased s)
  sound_here =
      let there = each_image o.read w (λ v. ViewSound o.act H v (eased s)) m.images.sound w.names (reads w) (now_image w m.images.formed) in
      let nested = each_image o.read w (HasNoNested o) m.images.no_nested w.names (reads w) (now_image w m.images.formed) in
      sound_from (seen o.read w) o.act H (eased s) (subst (λ v. ViewSound o.act H v (eased s)) (sym (now_is o w H)) there) told
      (subst (HasNoNested o) (sym (now_is o w H)) nested)

-- after these events
pub sound_now :
    (o : Outside) (entry : World) (H : Versions) (top : ℕ) (es : List Event) (s : RunState) → SumsDiffer H → SoundWorld o entry H → IsTop o entry top →
    Follows o.act entry es → Runs o (at_entry o top) entry es s → Sound o.act H (seen o.read (run entry es)) (eased s)
sound_now o entry H top es s differ sound is_top follows runs =
    sound_here o entry H s (run entry es) (reached o entry H differ sound top es s is_top follows runs)
