-- A mark of an open job's output is made, or may have been made by a call that failed.
use Rattle.std.proofs.Common.{◌≡◌, ◌⊎◌, ℕ, Bool, true, false, List, refl, sym, ap, subst, inl, inr, ◌∙◌, Some, None}
use Rattle.std.specs.Prelude.{bytes_eq, is_some, if◌then◌else◌, ◌||◌}
use Rattle.smk_record.specs.declared.record.Record.{Record}
use Rattle.smk_world.specs.declared.event.NodeState.{NodeState}
use Rattle.smk_world.specs.declared.event.NodeState.TheVariants.{Owned, Known}
use Rattle.smk_world.specs.Trees.{Path, IsIn, is_path_text}
use Rattle.smk_base.specs.Path.{overlaps, is_under, is_at_or_under}
use Rattle.smk_store.specs.Trust.{Versions, Eased, none_eased}
use Rattle.smk_laws_protocol.proofs.View.{View, Sound}
use Rattle.smk_laws_protocol.proofs.Views.{Nodes, EachImage, HasNames, reads, view_of, place_node}
use Rattle.smk_world.specs.World.{World, IsFormed, reading, reads_nothing}
use Rattle.smk_base.specs.Place.{mark_place, note_place}
use Rattle.smk_store.specs.Soundness.{Outside}
use Rattle.smk_laws_protocol.specs.Protocol.{OpenJob, outputs}
use Rattle.smk_laws_protocol.proofs.Rows.{now}
use Rattle.smk_laws_protocol.proofs.Between.{Fits, Images, HasNoNew, HasSources}
use Rattle.smk_laws_protocol.proofs.Basics.{by_test, clash}
use Rattle.smk_laws_protocol.proofs.Change.{Change, Differs}
use Rattle.smk_laws_protocol.proofs.Events.{CoversOverlaps, made_safe}
use Rattle.smk_laws_protocol.proofs.Law.{sound_less}
use Rattle.smk_laws_protocol.proofs.Like.{like_self}
use Rattle.smk_laws_protocol.proofs.Marking.{MayMark}
use Rattle.smk_laws_protocol.proofs.Naming.{each_image, of_wide}
use Rattle.smk_laws_protocol.proofs.Places.{with_marked, back_view}
use Rattle.smk_base.proofs.Places.{same_place, place_itself}
use Rattle.smk_laws_protocol.proofs.Stays.{in_left}
use Rattle.smk_laws_protocol.proofs.Texts.{Texts, OverlapLaws}
use Rattle.smk_laws_protocol.proofs.Turns.{Turn, turn_within, Pair, known_by, each_pair_change, of_pair}

pub covers_overlaps : OverlapLaws → CoversOverlaps
covers_overlaps laws p q h =
    by_test (is_at_or_under q p) (λ k. clash (overlaps q p) (laws.within p q k) h) (λ k. laws.covers p q ∙ k)

nothing_reads : (s : NodeState) → reads_nothing s ≡ true → is_some (reading s) ≡ false
nothing_reads Owned h = refl
nothing_reads (Known None besides) h = refl
nothing_reads (Known (Some n) besides) h = clash false h refl

eq_false : (p q : Path) → is_at_or_under q p ≡ false → bytes_eq q p ≡ false
eq_false p q h = left (bytes_eq q p) (is_under q p) h
  where
    left : (a b : Bool) → (a || b) ≡ false → a ≡ false
    left a b h = by_test a (λ e. clash (a || b) (rw e refl) h) (λ e. e)

-- with or without a mark, where there was none
marked_less : (v : View) (p : Path) (b : Bool) → v.marked p ≡ false → (q : Path) → (if bytes_eq q p then b else v.marked q) ≡ false → v.marked q ≡ false
marked_less v p b none q h = go (bytes_eq q p) refl h
  where
    go : (c : Bool) → bytes_eq q p ≡ c → (if c then b else v.marked q) ≡ false → v.marked q ≡ false
    go true e k = subst (λ x. v.marked x ≡ false) (sym (same_place q p e)) none
    go false e k = k

-- and what has one keeps it
marked_more : (v : View) (p : Path) (b : Bool) → v.marked p ≡ false → (q : Path) → v.marked q ≡ true → (if bytes_eq q p then b else v.marked q) ≡ true
marked_more v p b none q h = go (bytes_eq q p) refl
  where
    go : (c : Bool) → bytes_eq q p ≡ c → (if c then b else v.marked q) ≡ true
    go true e = clash (v.marked q) h (subst (λ x. v.marked x ≡ false) (sym (same_place q p e)) none)
    go false e = h

pub marked_differs : (j : OpenJob) (v : View) (p : Path) (b : Bool) → IsIn (outputs j) p → Differs j v (with_marked v p b)
marked_differs j v p b i =
    record {
      nodes = λ x f. record { file = refl; folder = refl; members = refl; tree = refl };
      records = λ x f. record { has = refl; at = refl; listed = refl };
      marks = λ x f. elsewhere x f (bytes_eq x p) refl;
    }
  where
    elsewhere : (x : Path) → (IsIn (outputs j) x → ⊥) → (c : Bool) → bytes_eq x p ≡ c → (if c then b else v.marked x) ≡ v.marked x
    elsewhere x f true h = absurd (f (subst (λ y. IsIn (outputs j) y) (sym (same_place x p h)) i))
    elsewhere x f false h = refl

pub marked_pair : (H : Versions) (j : OpenJob) (e e' : Eased) → ((p : Path) (r : Record) → e' p r → e p r) → (v : View) (p : Path) (b : Bool) → IsIn (outputs j) p → v.marked p ≡ false → Pair H j e e' v (with_marked v p b)
marked_pair H j e e' fewer v p b i none =
    record {
      differs = marked_differs j v p b i;
      counts = λ q r c. inl (r, (c.0, less e e' fewer q r c.1), like_self H r);
      none_counts = λ q r c. inl (r, (c.0, less none_eased none_eased (λ p r h. h) q r c.1), like_self H r);
    }
  where
    less : (e e' : Eased) → ((p : Path) (r : Record) → e' p r → e p r) → (q : Path) (r : Record) → ((if bytes_eq q p then b else v.marked q) ≡ false) ⊎ e' q r → (v.marked q ≡ false) ⊎ e q r
    less e e' fewer q r (inl k) = inl (marked_less v p b none q k)
    less e e' fewer q r (inr k) = inr (fewer q r k)

module _
    (o : Outside) (texts : Texts o.read) (entry : World) (H : Versions) (j : OpenJob) (e e' : Eased) (top : ℕ) (steady : Bool) (w w' : World)
    (m : Images o entry H e top steady w) (fits : Fits o entry e top w j) (fewer : (p : Path) (r : Record) → e' p r → e p r)
    (formed : IsFormed w') (covered : HasNames w'.names (reads w)) (p : Path) (i : IsIn (outputs j) p) (made : MayMark w w' p) where
  abbrev turn : Turn w w'
  turn = turn_within w w' formed covered (λ q. is_at_or_under q (mark_place p)) (λ q h. made.others q (eq_false (mark_place p) q h))

  view_is : (names : List Path) (g : Nodes) → with_marked (view_of o.read names (turn.before g)) p (is_some (place_node g mark_place p)) ≡ view_of o.read names g
  view_is names g = back_view texts.marks o.read names g (reads w) p

  unmarked : (names : List Path) (g : Nodes) → (view_of o.read names (turn.before g)).marked p ≡ false
  unmarked names g = go (is_path_text p)
    where
      go : (t : Bool) → is_some (if t then turn.before g (mark_place p) else None) ≡ false
      go true =
          ap (λ (b : Bool). is_some (if b then reads w (mark_place p) else g (mark_place p))) (texts.marks.mark_mark p p ∙ place_itself p)
          ∙ nothing_reads (w.nodes (mark_place p)) made.nothing
      go false = refl

  pair : (names : List Path) (g : Nodes) → Pair H j e e' (view_of o.read names (turn.before g)) (view_of o.read names g)
  pair names g = subst (Pair H j e e' (view_of o.read names (turn.before g))) (view_is names g) (marked_pair H j e e' fewer (view_of o.read names (turn.before g)) p (is_some (place_node g mark_place p)) i (unmarked names g))

  -- the records that read are the same
  abbrev SameNew : View → View → Type 0
  SameNew v v' = ((q : Path) → v'.record_at q ≡ v.record_at q) × ((q : Path) → v'.listed q ≡ v.listed q)

  same_new : SameNew (now o w) (now o w')
  same_new = of_pair o texts.naming w w' m.formed turn SameNew (λ names g k. subst (SameNew (view_of o.read names (turn.before g))) (view_is names g) ((λ q. refl), (λ q. refl)))

  new_on : (v : View) (b : Bool) → v.marked p ≡ false → HasNoNew o (now o w) v → HasNoNew o (now o w') (with_marked v p b)
  new_on v b none h q r at unmarked = let k = h q r at (marked_less v p b none q unmarked) in (same_new.0 q ∙ k.0, same_new.1 q ∙ k.1)

  safe : EachImage o.read w' (λ v. Sound o.act H v e × HasSources o (now o entry) v)
  safe =
      made_safe o texts.marks (covers_overlaps texts.overlap) entry H e w w' j p
      (λ names f rising complete covered leaves. (m.sound names f rising complete covered leaves, m.sources names f rising complete covered leaves))
      fits.no_source (in_left (outputs j) j.logs p i) made

  pub mark_change : Change o entry H j e e' w w'
  mark_change =
      each_pair_change o texts.naming entry H j e e' w w' m.formed turn
      (λ names g k. pair names g)
      (λ names g k q i is. known_by o texts.naming entry H e top steady w w' turn m (λ names g k q. sym (ap (λ (v : View). v.has_record q) (view_is names g))) (λ names g k q h. sym (ap (λ (v : View). v.marked q) (view_is names g)) ∙ marked_more (view_of o.read names (turn.before g)) p (is_some (place_node g mark_place p)) (unmarked names g) q h) names g k q is)
      (of_wide o.read texts.naming w m.formed w' (HasNoNew o (now o w'))
      (λ names g k. subst (HasNoNew o (now o w')) (view_is names g) (new_on (view_of o.read names (turn.before g)) (is_some (place_node g mark_place p)) (unmarked names g)
      (each_image o.read w (HasNoNew o (now o w)) m.no_new names (turn.before g) (turn.image names g k)))))
      (λ names g rising complete covered leaves. sound_less o.act H (view_of o.read names g) e e' fewer (safe names g rising complete covered leaves).0)
      (λ names g rising complete covered leaves. (safe names g rising complete covered leaves).1)
      (λ x f. made.others (mark_place x) (eq_false (mark_place p) (mark_place x) (texts.marks.mark_mark p x ∙ by_test (bytes_eq x p) (λ h. absurd (f (subst (λ y. IsIn (outputs j) y) (sym (same_place x p h)) i))) (λ h. h))))
      (λ x f. made.others (note_place x) (eq_false (mark_place p) (note_place x) (texts.marks.mark_note p x)))
