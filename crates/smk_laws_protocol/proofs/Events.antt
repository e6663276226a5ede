-- Single events of the protocol: a mark is made; a mark is removed.
use Rattle.std.proofs.Common.{◌≡◌, Bool, true, false, List, [], ◌∷◌, refl, sym, ap, subst, inl, inr, arith, ◌∙◌, Option, Some, None}
use Rattle.std.specs.Prelude.{is_some, if◌then◌else◌, ◌&&◌, ◌||◌, not}
use Rattle.std.specs.List.{list_any}
use Rattle.smk_world.specs.Trees.{Path, IsIn, is_path_text}
use Rattle.smk_base.specs.Path.{overlaps}
use Rattle.smk_store.specs.Images.{Content}
use Rattle.smk_laws_protocol.specs.Protocol.{OpenJob, own}
use Rattle.smk_store.specs.Trust.{Versions, Eased}
use Rattle.smk_laws_protocol.proofs.View.{View, Sound, source_at, is_source, is_covered}
use Rattle.smk_laws_protocol.proofs.Views.{EachImage}
use Rattle.smk_world.specs.World.{World}
use Rattle.smk_store.specs.Soundness.{Outside}
use Rattle.smk_laws_protocol.proofs.Rows.{now}
use Rattle.smk_laws_protocol.proofs.Between.{HasSources}
use Rattle.smk_laws_protocol.proofs.Moves.{with_mark, covers, mark_sound, mark_source}
use Rattle.smk_laws_protocol.proofs.Places.{PlaceLaws, with_marked}
use Rattle.smk_laws_protocol.proofs.Marking.{MayMark, each_made, mark_or_same}

source_is : (v : View) (q : Path) → is_some (source_at v q) ≡ is_source v q
source_is v q = cases (is_path_text q) (v.file q) (is_covered v q)
  where
    cases : (a : Bool) (f : Option Content) (c : Bool) → is_some (if a && is_some f && not c then f else None) ≡ (a && is_some f && not c)
    cases false f c = refl
    cases true None c = refl
    cases true (Some x) true = refl
    cases true (Some x) false = refl

pub same_source : (v v' : View) → ((q : Path) → source_at v q ≡ source_at v' q) → (q : Path) → is_source v q ≡ is_source v' q
same_source v v' same q = sym (source_is v q) ∙ ap (λ (o : Option Content). is_some o) (same q) ∙ source_is v' q

pub no_overlap : (q p : Path) (ps : List Path) → list_any (overlaps q) ps ≡ false → IsIn ps p → overlaps q p ≡ false
no_overlap q p [] h i = absurd i
no_overlap q p (x ∷ ps) h (inl e) = subst (λ y. overlaps q y ≡ false) (sym e) (left (overlaps q x) (list_any (overlaps q) ps) h)
  where
    left : (a b : Bool) → (a || b) ≡ false → a ≡ false
    left a b h = grind arith
no_overlap q p (x ∷ ps) h (inr i) = no_overlap q p ps (right (overlaps q x) (list_any (overlaps q) ps) h) i
  where
    right : (a b : Bool) → (a || b) ≡ false → b ≡ false
    right a b h = grind arith

-- a path covers what is under it
abbrev pub CoversOverlaps : Type 0
CoversOverlaps = (p q : Path) → overlaps q p ≡ false → covers p q ≡ false

module _ (o : Outside) (laws : PlaceLaws) (paths : CoversOverlaps) (entry : World) (H : Versions) (e : Eased) (w w' : World) (j : OpenJob) (p : Path) where
  abbrev SoundBy : View → Type 0
  SoundBy v = Sound o.act H v e × HasSources o (now o entry) v

  made_on : ((q : Path) → is_source (now o entry) q ≡ true → list_any (overlaps q) (own j) ≡ false) → IsIn (own j) p → (v : View) (b : Bool) → v.marked p ≡ false → SoundBy v → SoundBy (with_marked v p b)
  made_on no_source i v b unmarked sound = mark_or_same SoundBy v p unmarked sound (mark_sound v p none o.act H e sound.0, sources) b
    where
      none : (q : Path) → is_source v q ≡ true → covers p q ≡ false
      none q h = paths p q (no_overlap q p (own j) (no_source q (sym (same_source v (now o entry) sound.1 q) ∙ h)) i)

      sources : (q : Path) → source_at (with_mark v p) q ≡ source_at (now o entry) q
      sources q = ap (λ b. if b then v.file q else None) (mark_source v p none q) ∙ sound.1 q

  -- 1. a mark of an open job is made, or may have been made by a call that failed: every image is sound, with the same sources
  pub made_safe :
      EachImage o.read w SoundBy → ((q : Path) → is_source (now o entry) q ≡ true → list_any (overlaps q) (own j) ≡ false) →
      IsIn (own j) p → MayMark w w' p → EachImage o.read w' SoundBy
  made_safe sound no_source i made = each_made laws o.read w w' p SoundBy SoundBy (made_on no_source i) made sound
