-- Two steps of a history keep soundness: a whole call, and a crash in the midst of one.
use Rattle.std.proofs.Common.{◌≡◌, Bool, true, List, [], ◌++◌, refl, sym, subst}
use Rattle.smk_world.specs.declared.event.Event.{Event}
use Rattle.smk_world.specs.World.{World, Nodes, IsRising, places_in, Leaves, run, world_of}
use Rattle.smk_base.proofs.Under.{or_first}
use Rattle.smk_world.proofs.Names.{formed_image}
use Rattle.smk_world.proofs.Owners.{owned_image}
use Rattle.smk_world.specs.Trees.{Path}
use Rattle.smk_store.specs.Images.{image_of, seen}
use Rattle.smk_store.specs.Trust.{Versions, SumsDiffer, none_eased}
use Rattle.smk_store.specs.Soundness.{Outside, Sound, SoundWorld, SameSources, NoNewRecord, HasKnown}
use Rattle.smk_store.specs.Safety.{KeepsSound, with_sources}
use Rattle.smk_laws_history.proofs.Same.{leaves_same}

-- the world of a sound image is sound
pub sound_image :
    (o : Outside) (nodes : Nodes) (H : Versions) → IsRising (places_in nodes) → Sound o.act H (image_of o.read nodes) none_eased → SoundWorld o (world_of nodes) H
sound_image o nodes H rising sound =
    record {
      formed = formed_image nodes rising;
      now = sound;
      after_crash = λ after leaves. subst (λ ns. Sound o.act H (image_of o.read ns) none_eased) (sym (leaves_same nodes after rising leaves)) sound;
      same_sources = λ after leaves. subst (λ ns. SameSources (seen o.read (world_of nodes)) (image_of o.read ns)) (sym (leaves_same nodes after rising leaves)) (λ p. refl);
      no_new_record = λ after leaves. subst (λ ns. NoNewRecord (seen o.read (world_of nodes)) (image_of o.read ns)) (sym (leaves_same nodes after rising leaves)) (λ p r stands unmarked. stands);
      known = λ after leaves. subst (λ ns. HasKnown (seen o.read (world_of nodes)) (image_of o.read ns)) (sym (leaves_same nodes after rising leaves)) (λ p stands. or_first _ _ stands);
      no_child = refl;
      owners = owned_image nodes;
    }

-- a crash after some events of a call
pub crash_keeps :
    (o : Outside) (w : World) (H : Versions) (log events rest : List Event) (paths : List Path) (to_the_end : Bool) (nodes : Nodes) →
    SumsDiffer H → SoundWorld o w H → KeepsSound o w log paths to_the_end → log ≡ events ++ rest → Leaves (run w events) nodes →
    SoundWorld o (world_of nodes) (with_sources H (seen o.read (world_of nodes)))
crash_keeps o w H log events rest paths to_the_end nodes differ sound call split leaves =
    sound_image o nodes (with_sources H (image_of o.read nodes)) leaves.rising ((call.safe H differ sound events rest split nodes leaves).0)

-- a whole call
pub call_keeps :
    (o : Outside) (w : World) (H : Versions) (log : List Event) (paths : List Path) →
    SumsDiffer H → SoundWorld o w H → KeepsSound o w log paths true → (run w log).children ≡ [] → SoundWorld o (run w log) (with_sources H (seen o.read (run w log)))
call_keeps o w H log paths differ sound call alone = call.sound_at_exit H differ sound refl alone
