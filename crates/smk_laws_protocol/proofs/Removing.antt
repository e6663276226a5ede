-- A path's record, mark or note is removed: each image then is one from before, or knows less of the path.
use Rattle.std.proofs.Common.{◌≡◌, ◌⊎◌, Bool, true, false, List, [], refl, sym, ap, subst, inl, inr, ◌∙◌, Option, Some, None}
use Rattle.std.specs.Prelude.{IsTrue, IsSome, bytes_eq, is_some, is_none, if◌then◌else◌, Ok, Result}
use Rattle.std.specs.Option.{option_map}
use Rattle.smk_base.specs.Path.{is_at_or_under}
use Rattle.smk_base.specs.Place.{record_place, mark_place, note_place}
use Rattle.smk_base.proofs.Places.{same_place}
use Rattle.smk_world.specs.declared.event.Call.TheVariants.{Removed}
use Rattle.smk_world.specs.declared.event.Change.{Change as LeftNode}
use Rattle.smk_world.specs.declared.event.Failed.{Failed}
use Rattle.smk_world.specs.declared.event.Node.{Node}
use Rattle.smk_world.specs.declared.event.NodeState.{NodeState}
use Rattle.smk_world.specs.declared.event.NodeState.TheVariants.{Owned, Known}
use Rattle.smk_world.specs.World.{World, MayLeave, after, reading, standing, going}
use Rattle.smk_world.specs.Trees.{Path, among, is_path_text}
use Rattle.smk_record.specs.Records.{core, members_of}
use Rattle.smk_store.specs.Images.{is_outside, is_directory}
use Rattle.smk_store.specs.Soundness.{Outside}
use Rattle.smk_laws_protocol.proofs.View.{View, file_of}
use Rattle.smk_laws_protocol.proofs.Views.{Nodes, reads, view_of, view_by, path_node, place_node, read_at}
use Rattle.smk_laws_protocol.proofs.Basics.{by_test}
use Rattle.smk_laws_protocol.proofs.Calls.{event}
use Rattle.smk_laws_protocol.proofs.Lessened.{Less, SameRecord}
use Rattle.smk_laws_protocol.proofs.Marking.{reads_stay}
use Rattle.smk_laws_protocol.proofs.Naming.{IsImage, IsWide}
use Rattle.smk_laws_protocol.proofs.Shrunk.{going_some}
use Rattle.smk_laws_protocol.proofs.TextFacts.{text_laws}

none_is : {A : Type 0} (n : Option A) → is_none n ≡ true → n ≡ None
none_is None h = refl
none_is {A} (Some n) h = absurd (no h)
  where
    no : false ≡ true → ⊥
    no h = cc

-- an image in which what is gone at and under a place reads as it does in the world
module _ (o : Outside) (w : World) (m : Path) where
  abbrev pub filled : Nodes → Nodes
  filled g q = if is_at_or_under q m then (if is_none (g q) then reads w q else g q) else g q

  other : (g : Nodes) (q : Path) → is_at_or_under q m ≡ false → filled g q ≡ g q
  other g q h = ap (λ (b : Bool). if b then (if is_none (g q) then reads w q else g q) else g q) h

  standing_same : (g : Nodes) (q : Path) → is_none (g q) ≡ false → filled g q ≡ g q
  standing_same g q h = go (is_at_or_under q m)
    where
      inner : (b : Bool) → b ≡ false → (if b then reads w q else g q) ≡ g q
      inner b e = rw e refl

      go : (b : Bool) → (if b then (if is_none (g q) then reads w q else g q) else g q) ≡ g q
      go true = inner (is_none (g q)) h
      go false = refl

  -- what one of the engine's places has for a path is the same, or gone
  pub place_other : (g : Nodes) (P : Path → Path) (q : Path) → is_at_or_under (P q) m ≡ false → place_node g P q ≡ place_node (filled g) P q
  place_other g P q h = ap (λ n. if is_path_text q then n else None) (sym (other g (P q) h))

  place_here : (g : Nodes) (P : Path → Path) (q : Path) → (place_node g P q ≡ place_node (filled g) P q) ⊎ (place_node g P q ≡ None)
  place_here g P q =
      by_test (is_none (g (P q)))
      (λ h. inr (never (is_path_text q) (g (P q)) (none_is (g (P q)) h)))
      (λ h. inl (ap (λ n. if is_path_text q then n else None) (sym (standing_same g (P q) h))))
    where
      never : (b : Bool) (n : Option Node) → n ≡ None → (if b then n else None) ≡ None
      never true n h = h
      never false n h = refl

  -- of places of which those of p alone lie there
  place_less : (g : Nodes) (P : Path → Path) (p : Path) → ((q : Path) → bytes_eq q p ≡ false → is_at_or_under (P q) m ≡ false) → (q : Path) → (place_node g P q ≡ place_node (filled g) P q) ⊎ ((q ≡ p) × (place_node g P q ≡ None))
  place_less g P p law q = by_test (bytes_eq q p) (λ e. turn (same_place q p e) (place_here g P q)) (λ h. inl (place_other g P q (law q h)))
    where
      turn : q ≡ p → (place_node g P q ≡ place_node (filled g) P q) ⊎ (place_node g P q ≡ None) → (place_node g P q ≡ place_node (filled g) P q) ⊎ ((q ≡ p) × (place_node g P q ≡ None))
      turn e (inl same) = inl same
      turn e (inr none) = inr (e, none)

  module _ (paths : (q : Path) → is_outside q ≡ true → is_at_or_under q m ≡ false) (names : List Path) (g : Nodes) (p : Path) where
    abbrev v0 : View
    v0 = view_of o.read names (filled g)

    abbrev v1 : View
    v1 = view_of o.read names g

    path : path_node g ≡ path_node (filled g)
    path k q = go (is_outside q) refl k
      where
        go : (b : Bool) → is_outside q ≡ b → (if b then g q else None) ≡ (if b then filled g q else None)
        go true h = sym (other g q (paths q h))
        go false h = refl

    same_record : (q : Path) → place_node g record_place q ≡ place_node (filled g) record_place q → SameRecord v0 v1 q
    same_record q e =
        record {
          has = ap (λ (n : Option Node). is_some n) e;
          at = ap (λ n. option_map core (read_at o.read q n)) e;
          list = ap (λ n. members_of (read_at o.read q n)) e;
        }

    no_record : (q : Path) → place_node g record_place q ≡ None → (v1.has_record q ≡ false) × (v1.record_at q ≡ None)
    no_record q e = (ap (λ (n : Option Node). is_some n) e, ap (λ n. option_map core (read_at o.read q n)) e)

    pub less_by :
        ((q : Path) → (place_node g record_place q ≡ place_node (filled g) record_place q) ⊎ ((q ≡ p) × (place_node g record_place q ≡ None))) →
        ((q : Path) → (place_node g mark_place q ≡ place_node (filled g) mark_place q) ⊎ ((q ≡ p) × (place_node g mark_place q ≡ None) × (v1.record_at q ≡ None))) →
        ((q : Path) → (place_node g note_place q ≡ place_node (filled g) note_place q) ⊎ ((q ≡ p) × (place_node g note_place q ≡ None))) → Less p v0 v1
    less_by records marks notes =
        record {
          file = λ q. ap (λ (n : Nodes). file_of (n q)) path;
          folder = λ q. ap (λ (n : Nodes). is_directory (n q)) path;
          members = λ q. ap (λ (n : Nodes). (view_by o.read names n n n n).members q) path;
          tree = λ q. ap (λ (n : Nodes). (view_by o.read names n n n n).tree q) path;
          records = λ q. record_case q (records q);
          marks = λ q. mark_case q (marks q);
          notes = λ q. note_case q (notes q);
        }
      where
        record_case : (q : Path) → (place_node g record_place q ≡ place_node (filled g) record_place q) ⊎ ((q ≡ p) × (place_node g record_place q ≡ None)) → SameRecord v0 v1 q ⊎ ((q ≡ p) × (v1.has_record q ≡ false) × (v1.record_at q ≡ None))
        record_case q (inl e) = inl (same_record q e)
        record_case q (inr (is, e)) = let k = no_record q e in inr (is, k.0, k.1)

        mark_case : (q : Path) → (place_node g mark_place q ≡ place_node (filled g) mark_place q) ⊎ ((q ≡ p) × (place_node g mark_place q ≡ None) × (v1.record_at q ≡ None)) → (v1.marked q ≡ v0.marked q) ⊎ ((q ≡ p) × (v1.marked q ≡ false) × (v1.record_at q ≡ None))
        mark_case q (inl e) = inl (ap (λ (n : Option Node). is_some n) e)
        mark_case q (inr (is, e, none)) = inr (is, ap (λ (n : Option Node). is_some n) e, none)

        note_case : (q : Path) → (place_node g note_place q ≡ place_node (filled g) note_place q) ⊎ ((q ≡ p) × (place_node g note_place q ≡ None)) → (v1.noted q ≡ v0.noted q) ⊎ ((q ≡ p) × (v1.noted q ≡ false))
        note_case q (inl e) = inl (ap (λ (n : Option Node). is_some n) e)
        note_case q (inr (is, e)) = inr (is, ap (λ (n : Option Node). is_some n) e)

-- ---- the three places

module _ (o : Outside) (w : World) (p : Path) (names : List Path) (g : Nodes) where
  pub record_less : Less p (view_of o.read names (filled o w (record_place p) g)) (view_of o.read names g)
  record_less =
      less_by o w (record_place p) (λ q h. text_laws.records.record_path p q h) names g p
      (place_less o w (record_place p) g record_place p (λ q h. text_laws.records.record_record p q h))
      (λ q. inl (place_other o w (record_place p) g mark_place q (text_laws.records.record_mark p q)))
      (λ q. inl (place_other o w (record_place p) g note_place q (text_laws.records.record_note p q)))

  pub note_less : Less p (view_of o.read names (filled o w (note_place p) g)) (view_of o.read names g)
  note_less =
      less_by o w (note_place p) (λ q h. text_laws.notes.note_path p q h) names g p
      (λ q. inl (place_other o w (note_place p) g record_place q (text_laws.notes.note_record p q)))
      (λ q. inl (place_other o w (note_place p) g mark_place q (text_laws.notes.note_mark p q)))
      (place_less o w (note_place p) g note_place p (λ q h. text_laws.notes.note_note p q ∙ h))

  -- the mark, where no record reads
  pub mark_less : (view_of o.read names g).record_at p ≡ None → Less p (view_of o.read names (filled o w (mark_place p) g)) (view_of o.read names g)
  mark_less none =
      less_by o w (mark_place p) (λ q h. text_laws.marks.mark_path p q h) names g p
      (λ q. inl (place_other o w (mark_place p) g record_place q (text_laws.marks.mark_record p q)))
      (λ q. turn q (place_less o w (mark_place p) g mark_place p (λ q h. text_laws.marks.mark_mark p q ∙ h) q))
      (λ q. inl (place_other o w (mark_place p) g note_place q (text_laws.marks.mark_note p q)))
    where
      turn : (q : Path) → (place_node g mark_place q ≡ place_node (filled o w (mark_place p) g) mark_place q) ⊎ ((q ≡ p) × (place_node g mark_place q ≡ None)) → (place_node g mark_place q ≡ place_node (filled o w (mark_place p) g) mark_place q) ⊎ ((q ≡ p) × (place_node g mark_place q ≡ None) × ((view_of o.read names g).record_at q ≡ None))
      turn q (inl e) = inl e
      turn q (inr (is, e)) = inr (is, e, subst (λ y. (view_of o.read names g).record_at y ≡ None) (sym is) none)

-- ---- the images after a removal

module _ (o : Outside) (w : World) (m : Path) (r : Result (Unit {0}) Failed) (left : List LeftNode)
    (left_is : (q : Path) → is_at_or_under q m ≡ true → (standing left q ≡ None) ⊎ (standing left q ≡ reading (w.nodes q))) where
  abbrev w' : World
  w' = after w (event (Removed m r) left)

  pub filled_image : (names : List Path) (g : Nodes) → IsWide w w' names g → IsImage w names (filled o w m g)
  filled_image names g i =
      record {
        rising = i.image.rising;
        complete = λ q. complete q (is_at_or_under q m) (is_none (g q));
        covered = i.before;
        leaves = λ q. leaves q (is_at_or_under q m) refl (is_none (g q)) refl;
      }
    where
      complete : (q : Path) (a b : Bool) → IsSome (if a then (if b then reads w q else g q) else g q) → IsTrue (among names q)
      complete q true true h = i.before q h
      complete q true false h = i.image.complete q h
      complete q false b h = i.image.complete q h

      leaves : (q : Path) (a : Bool) → is_at_or_under q m ≡ a → (b : Bool) → is_none (g q) ≡ b → MayLeave (w.nodes q) (if a then (if b then reads w q else g q) else g q)
      leaves q true under true none = reads_stay (w.nodes q)
      leaves q true under false some =
          going_some (w.nodes q) (standing left q) (g q) (left_is q under) some
          (subst (λ t. MayLeave t (g q)) (ap (λ (b : Bool). if b then going (standing left q) (w.nodes q) else w.nodes q) under) (i.image.leaves q))
      leaves q false other b none = subst (λ t. MayLeave t (g q)) (ap (λ (b : Bool). if b then going (standing left q) (w.nodes q) else w.nodes q) other) (i.image.leaves q)

-- after a removal that succeeded the world reads as before, but nothing there
pub now_filled : (o : Outside) (w : World) (m : Path) → filled o w m (reads (after w (event (Removed m (Ok tt)) []))) ≡ reads w
now_filled o w m k q = go (is_at_or_under q m) refl k
  where
    gone : (s : NodeState) → reading (going None s) ≡ None
    gone Owned = refl
    gone (Known n b) = refl

    go : (b : Bool) → is_at_or_under q m ≡ b → (if b then (if is_none (reading (if b then going None (w.nodes q) else w.nodes q)) then reads w q else reading (if b then going None (w.nodes q) else w.nodes q)) else reading (if b then going None (w.nodes q) else w.nodes q)) ≡ reads w q
    go true h = ap (λ (n : Option Node). if is_none n then reads w q else n) (gone (w.nodes q))
    go false h = refl
