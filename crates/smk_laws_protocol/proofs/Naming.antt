-- The names in a view don't matter: of an image it is enough to look at lists of names that have all that reads before and after.
use Rattle.smk_laws_protocol.proofs.Formed.{all_named}
use Rattle.std.proofs.Common.{◌≡◌, ℕ, List, subst, Option}
use Rattle.std.specs.Prelude.{IsTrue}
use Rattle.smk_record.specs.declared.record.Record.{Record}
use Rattle.smk_world.specs.Trees.{Path, among}
use Rattle.smk_laws_protocol.proofs.View.{View}
use Rattle.smk_laws_protocol.proofs.Views.{Nodes, EachImage, HasNames, reads, Leaves, view_of}
use Rattle.smk_world.specs.World.{World, IsFormed, IsRising}
use Rattle.smk_laws_protocol.proofs.Marking.{reads_stay}

-- premises on lists of names
pub record NamesLaws (read : List ℕ → Option Record) : Type 0 where
  -- the names of an image don't matter for its view, as long as they have all that stands
  pub same :
      (names names' : List Path) (f : Nodes) → IsRising names → IsRising names' → HasNames names f → HasNames names' f → view_of read names f ≡ view_of read names' f
  -- rising names that have those of two lists
  pub both : List Path → List Path → List Path
  pub rising : (ps qs : List Path) → IsRising ps → IsRising qs → IsRising (both ps qs)
  pub left : (ps qs : List Path) (q : Path) → IsTrue (among ps q) → IsTrue (among (both ps qs) q)
  pub right : (ps qs : List Path) (q : Path) → IsTrue (among qs q) → IsTrue (among (both ps qs) q)

-- an image of a world, and names for it and for what reads
pub record IsImage (w : World) (names : List Path) (f : Nodes) : Type 0 where
  pub rising : IsRising names
  pub complete : HasNames names f
  pub covered : HasNames names (reads w)
  pub leaves : Leaves w f

pub each_image : (read : List ℕ → Option Record) (w : World) (P : View → Type 0) → EachImage read w P → (names : List Path) (f : Nodes) → IsImage w names f → P (view_of read names f)
each_image read w P each names f i = each names f i.rising i.complete i.covered i.leaves

pub of_images : (read : List ℕ → Option Record) (w : World) (P : View → Type 0) → ((names : List Path) (f : Nodes) → IsImage w names f → P (view_of read names f)) → EachImage read w P
of_images read w P h names f rising complete covered leaves = h names f (record { rising = rising; complete = complete; covered = covered; leaves = leaves })

pub now_image : (w : World) → IsFormed w → IsImage w w.names (reads w)
now_image w formed = record { rising = formed.rising; complete = (all_named _ formed); covered = (all_named _ formed); leaves = λ q. reads_stay (w.nodes q) }

-- an image of the world after, with names for what read before, too
pub record IsWide (w w' : World) (names : List Path) (g : Nodes) : Type 0 where
  pub image : IsImage w' names g
  pub before : HasNames names (reads w)

pub of_wide :
    (read : List ℕ → Option Record) → NamesLaws read → (w : World) → IsFormed w → (w' : World) (P : View → Type 0) →
    ((names : List Path) (g : Nodes) → IsWide w w' names g → P (view_of read names g)) → EachImage read w' P
of_wide read naming w formed w' P h names g rising complete covered leaves =
    let wide = naming.both names w.names in
    subst P (naming.same wide names g (naming.rising names w.names rising formed.rising) rising (λ q k. naming.left names w.names q (complete q k)) complete)
    (h wide g
    (record {
      image = record {
        rising = naming.rising names w.names rising formed.rising;
        complete = λ q k. naming.left names w.names q (complete q k);
        covered = λ q k. naming.left names w.names q (covered q k);
        leaves = leaves;
      };
      before = λ q k. naming.right names w.names q (all_named _ formed q k);
    }))
