-- The marks and notes that a run found are settled: from then on the serials of what counts are at most the greatest.
use Rattle.std.proofs.Common.{◌≡◌, ◌⊎◌, ◌≤◌, Bool, true, false, List, [], ◌∷◌, refl, sym, ap, subst, inl, inr, ◌∙◌, Option, Some, None}
use Rattle.std.specs.Prelude.{is_some, Ok, if◌then◌else◌}
use Rattle.smk_world.specs.declared.event.Call.{Call}
use Rattle.smk_world.specs.declared.event.Call.TheVariants.{Settled}
use Rattle.smk_world.specs.declared.event.Change.{Change as LeftNode}
use Rattle.smk_world.specs.declared.event.Node.{Node}
use Rattle.smk_world.specs.declared.event.NodeState.{NodeState}
use Rattle.smk_world.specs.Trees.{Path, IsIn, is_path_text}
use Rattle.smk_store.specs.Trust.{Versions}
use Rattle.smk_laws_protocol.proofs.Views.{Nodes, view_of, place_node, reads}
use Rattle.smk_world.specs.World.{World, MayLeave, after, firmly}
use Rattle.smk_base.specs.Place.{mark_place}
use Rattle.smk_store.specs.Soundness.{Outside}
use Rattle.smk_laws_protocol.specs.Protocol.{RunState, eased}
use Rattle.smk_laws_protocol.proofs.Rows.{now, HasAllMarks}
use Rattle.smk_laws_protocol.proofs.Between.{Midway, IsBounded, HasNoNew}
use Rattle.smk_laws_protocol.proofs.Aside.{settle_keeps}
use Rattle.smk_laws_protocol.proofs.Basics.{by_test, clash}
use Rattle.smk_laws_protocol.proofs.Calls.{event}
use Rattle.smk_laws_protocol.proofs.Naming.{IsImage, each_image, of_images}
use Rattle.smk_laws_protocol.proofs.Settled.{all_firm}
use Rattle.smk_laws_protocol.proofs.Texts.{Texts}
use Rattle.smk_laws_protocol.proofs.Untouched.{untouched_same}

firm_stays : (s : NodeState) (n : Node) (m : Option Node) → s ≡ firmly (Some n) → MayLeave s m → is_some m ≡ true
firm_stays s n m h leaves = go m (subst (λ t. MayLeave t m) h leaves)
  where
    go : (m : Option Node) → (m ≡ Some n) ⊎ ⊥ → is_some m ≡ true
    go m (inl e) = ap (λ (x : Option Node). is_some x) e
    go m (inr e) = absurd e

in_text : (t : Bool) (n : Option Node) → is_some (if t then n else None) ≡ true → (t ≡ true) × (is_some n ≡ true)
in_text true n h = (refl, h)
in_text false n h = clash false h refl

module _ (o : Outside) (texts : Texts o.read) (entry : World) (H : Versions) (s : RunState) (w : World) (m : Midway o entry H s w) (left : List LeftNode) (ps : List Path)
    (none : s.jobs ≡ []) (all : HasAllMarks o (now o w) ps) where
  abbrev w' : World
  w' = after w (event (Settled ps (Ok tt)) left)

  settled : Midway o entry H s w'
  settled = settle_keeps o texts entry H s w m ps (Ok tt) left

  -- what has no mark in an image has none now
  unmarked_now : (names : List Path) (f : Nodes) → IsImage w' names f → (p : Path) → (view_of o.read names f).marked p ≡ false → (now o w').marked p ≡ false
  unmarked_now names f i p h =
      by_test ((now o w').marked p)
      (λ k.
      let t = in_text (is_path_text p) (reads w' (mark_place p)) k in
      let there : is_some (reads w (mark_place p)) ≡ true = sym (ap (λ (n : Option Node). is_some n) (untouched_same w (mark_place p) (Settled ps (Ok tt)) left tt).reads_same) ∙ t.1 in
      let marked : (now o w).marked p ≡ true = ap (λ (b : Bool). is_some (if b then reads w (mark_place p) else None)) t.0 ∙ there in
      let firm = all_firm o texts w ps left m.images.formed (mark_place p ∷ []) (all.marks p marked, tt) (mark_place p) (inl refl) there in
      clash (is_some (place_node f mark_place p))
      (ap (λ (b : Bool). is_some (if b then f (mark_place p) else None)) t.0
      ∙ firm_stays (w'.nodes (mark_place p)) firm.0 (f (mark_place p)) firm.1 (i.leaves (mark_place p)))
      h)
      (λ k. k)

  bounded : (names : List Path) (f : Nodes) → IsImage w' names f → IsBounded o (eased s) s.top (view_of o.read names f)
  bounded names f i p r n c k = by_steady s.steady refl
    where
      no_job : eased s p r → n ≤ s.top
      no_job h = absurd (subst (λ l. IsIn l h.0) none h.1)

      by_clear : s.steady ≡ false → ((view_of o.read names f).marked p ≡ false) ⊎ eased s p r → n ≤ s.top
      by_clear u (inl h) = settled.images.unsteady u p r n (each_image o.read w' (HasNoNew o (now o w')) settled.images.no_new names f i p r c.0 h).0 (unmarked_now names f i p h) k
      by_clear u (inr h) = no_job h

      by_steady : (b : Bool) → s.steady ≡ b → n ≤ s.top
      by_steady true h = each_image o.read w' (IsBounded o (eased s) s.top) (settled.images.bounded h) names f i p r n c k
      by_steady false h = by_clear h c.1

  steady_here : Midway o entry H (record s { steady = true }) w'
  steady_here =
      record {
        images = record {
          formed = settled.images.formed;
          sound = settled.images.sound;
          sources = settled.images.sources;
          no_new = settled.images.no_new;
          bounded = λ h. of_images o.read w' (IsBounded o (eased s) s.top) bounded;
          no_nested = settled.images.no_nested;
          known = settled.images.known;
          unsteady = λ h. clash true refl h;
        };
        fits = settled.fits;
        phases = settled.phases;
        like = settled.like;
        apart = settled.apart;
        children = settled.children;
        owned = settled.owned;
      }

pub steadied :
    (o : Outside) (texts : Texts o.read) (entry : World) (H : Versions) (s : RunState) (w : World) → Midway o entry H s w → (c : Call) (left : List LeftNode) (ps : List Path) →
    s.jobs ≡ [] → c ≡ Settled ps (Ok tt) → HasAllMarks o (now o w) ps → Midway o entry H (record s { steady = true }) (after w (event c left))
steadied o texts entry H s w m c left ps none is all =
    subst (λ x. Midway o entry H (record s { steady = true }) (after w (event x left))) (sym is) (steady_here o texts entry H s w m left ps none all)
