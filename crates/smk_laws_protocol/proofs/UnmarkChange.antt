-- A mark of an open job's output is removed, and may be there still.
use Rattle.std.proofs.Common.{◌≡◌, ◌⊎◌, ℕ, Bool, true, false, List, refl, sym, ap, subst, inl, inr, arith, ◌∙◌, Some}
use Rattle.std.specs.Prelude.{bytes_eq, is_some, if◌then◌else◌, ◌||◌}
use Rattle.smk_record.specs.declared.record.Record.{Record}
use Rattle.smk_world.specs.Trees.{Path, IsIn}
use Rattle.smk_store.specs.Trust.{Versions, Eased, none_eased}
use Rattle.smk_laws_protocol.proofs.View.{View, Sound}
use Rattle.smk_laws_protocol.proofs.Views.{Nodes, EachImage, HasNames, reads, view_of, place_node}
use Rattle.smk_world.specs.World.{World, IsFormed}
use Rattle.smk_base.specs.Path.{is_at_or_under}
use Rattle.smk_base.specs.Place.{mark_place, note_place}
use Rattle.smk_store.specs.Soundness.{Outside}
use Rattle.smk_laws_protocol.specs.Protocol.{OpenJob, outputs, record_of}
use Rattle.smk_laws_protocol.proofs.Rows.{now}
use Rattle.smk_laws_protocol.proofs.Between.{Images, HasNoNew, HasKnown, HasSources}
use Rattle.smk_laws_protocol.proofs.Basics.{by_test}
use Rattle.smk_laws_protocol.proofs.Change.{Change, Counts}
use Rattle.smk_laws_protocol.proofs.Law.{sound_less}
use Rattle.smk_laws_protocol.proofs.Like.{like_self}
use Rattle.smk_laws_protocol.proofs.Moves.{Counted}
use Rattle.smk_laws_protocol.proofs.MarkChange.{marked_differs}
use Rattle.smk_laws_protocol.proofs.Naming.{IsWide, each_image, of_wide}
use Rattle.smk_laws_protocol.proofs.Places.{with_marked, back_view}
use Rattle.smk_base.proofs.Places.{same_place}
use Rattle.smk_laws_protocol.proofs.Texts.{Texts}
use Rattle.smk_laws_protocol.proofs.Turns.{Turn, turn_within, Pair, each_pair_change, of_pair}

-- what counts with a mark less, or with it, counted before, or is the job's own record
unmarked_counts :
    (H : Versions) (j : OpenJob) (e e' : Eased) → ((p : Path) (r : Record) → e' p r → e p r) → (v : View) (p : Path) (b : Bool) → IsIn (outputs j) p →
    ((r : Record) → v.record_at p ≡ Some r → r ≡ record_of j p) → Counts H j v e (with_marked v p b) e'
unmarked_counts H j e e' fewer v p b i own_record q r c = go (bytes_eq q p) refl c.1
  where
    go : (x : Bool) → bytes_eq q p ≡ x → ((if x then b else v.marked q) ≡ false) ⊎ e' q r → Counted H v e q r ⊎ IsIn (outputs j) q × (r ≡ record_of j q)
    go true h k =
        inr (subst (λ y. IsIn (outputs j) y × (r ≡ record_of j y)) (sym (same_place q p h)) (i, own_record r (subst (λ y. v.record_at y ≡ Some r) (same_place q p h) c.0)))
    go false h (inl k) = inl (r, (c.0, inl k), like_self H r)
    go false h (inr k) = inl (r, (c.0, inr (fewer q r k)), like_self H r)

module _
    (o : Outside) (texts : Texts o.read) (entry : World) (H : Versions) (j : OpenJob) (e e' : Eased) (top : ℕ) (steady : Bool) (w w' : World)
    (m : Images o entry H e top steady w) (fewer : (p : Path) (r : Record) → e' p r → e p r)
    (formed : IsFormed w') (covered : HasNames w'.names (reads w)) (p : Path) (i : IsIn (outputs j) p)
    (others : (q : Path) → is_at_or_under q (mark_place p) ≡ false → w'.nodes q ≡ w.nodes q)
    -- the record that reads there is the job's, and the same now
    (own_record : EachImage o.read w (λ v. (r : Record) → v.record_at p ≡ Some r → (r ≡ record_of j p) × ((now o w).record_at p ≡ Some r) × ((now o w).listed p ≡ v.listed p)))
    -- where an image has a record of p, it has one now
    (known_here : EachImage o.read w (λ v. v.has_record p ≡ true → (now o w).has_record p ≡ true))
    (safe : (names : List Path) (g : Nodes) → IsWide w w' names g → Sound o.act H (view_of o.read names g) e × HasSources o (now o entry) (view_of o.read names g)) where
  abbrev turn : Turn w w'
  turn = turn_within w w' formed covered (λ q. is_at_or_under q (mark_place p)) others

  view_is : (names : List Path) (g : Nodes) → with_marked (view_of o.read names (turn.before g)) p (is_some (place_node g mark_place p)) ≡ view_of o.read names g
  view_is names g = back_view texts.marks o.read names g (reads w) p

  own_before : (names : List Path) (g : Nodes) → IsWide w w' names g → (r : Record) → (view_of o.read names (turn.before g)).record_at p ≡ Some r → (r ≡ record_of j p) × ((now o w).record_at p ≡ Some r) × ((now o w).listed p ≡ (view_of o.read names (turn.before g)).listed p)
  own_before names g k =
      each_image o.read w (λ v. (r : Record) → v.record_at p ≡ Some r → (r ≡ record_of j p) × ((now o w).record_at p ≡ Some r) × ((now o w).listed p ≡ v.listed p)) own_record names (turn.before g) (turn.image names g k)

  pair : (names : List Path) (g : Nodes) → IsWide w w' names g → Pair H j e e' (view_of o.read names (turn.before g)) (view_of o.read names g)
  pair names g k =
      let v = view_of o.read names (turn.before g) in
      subst (Pair H j e e' v) (view_is names g)
      (record {
        differs = marked_differs j v p (is_some (place_node g mark_place p)) i;
        counts = unmarked_counts H j e e' fewer v p (is_some (place_node g mark_place p)) i (λ r at. (own_before names g k r at).0);
        none_counts = unmarked_counts H j none_eased none_eased (λ p r h. h) v p (is_some (place_node g mark_place p)) i (λ r at. (own_before names g k r at).0);
      })

  abbrev SameNew : View → View → Type 0
  SameNew v v' = ((q : Path) → v'.record_at q ≡ v.record_at q) × ((q : Path) → v'.listed q ≡ v.listed q)

  new_pair : (names : List Path) (g : Nodes) → SameNew (view_of o.read names (turn.before g)) (view_of o.read names g)
  new_pair names g = subst (SameNew (view_of o.read names (turn.before g))) (view_is names g) ((λ q. refl), (λ q. refl))

  same_new : SameNew (now o w) (now o w')
  same_new = of_pair o texts.naming w w' m.formed turn SameNew (λ names g k. new_pair names g)

  new_on : (names : List Path) (g : Nodes) → IsWide w w' names g → HasNoNew o (now o w) (view_of o.read names (turn.before g)) → HasNoNew o (now o w') (with_marked (view_of o.read names (turn.before g)) p (is_some (place_node g mark_place p)))
  new_on names g k h q r at unmarked = go (bytes_eq q p) refl unmarked
    where
      go : (x : Bool) → bytes_eq q p ≡ x → (if x then is_some (place_node g mark_place p) else (view_of o.read names (turn.before g)).marked q) ≡ false → ((now o w').record_at q ≡ Some r) × ((now o w').listed q ≡ (view_of o.read names (turn.before g)).listed q)
      go true s unmarked =
          subst (λ x. ((now o w').record_at x ≡ Some r) × ((now o w').listed x ≡ (view_of o.read names (turn.before g)).listed x)) (sym (same_place q p s))
          (let c = own_before names g k r (subst (λ x. (view_of o.read names (turn.before g)).record_at x ≡ Some r) (same_place q p s) at) in (same_new.0 p ∙ c.1, same_new.1 p ∙ c.2))
      go false s unmarked = let c = h q r at unmarked in (same_new.0 q ∙ c.0, same_new.1 q ∙ c.1)

  has_same : (names : List Path) (g : Nodes) (q : Path) → (view_of o.read names g).has_record q ≡ (view_of o.read names (turn.before g)).has_record q
  has_same names g q = sym (ap (λ (v : View). v.has_record q) (view_is names g))

  has_now : (q : Path) → (now o w').has_record q ≡ (now o w).has_record q
  has_now q = of_pair o texts.naming w w' m.formed turn (λ v v'. v'.has_record q ≡ v.has_record q) (λ names g k. has_same names g q)

  marked_now : (q : Path) → bytes_eq q p ≡ false → (now o w').marked q ≡ (now o w).marked q
  marked_now q h =
      of_pair o texts.naming w w' m.formed turn (λ v v'. v'.marked q ≡ v.marked q)
      (λ names g k. sym (ap (λ (v : View). v.marked q) (view_is names g)) ∙ ap (λ (b : Bool). if b then is_some (place_node g mark_place p) else (view_of o.read names (turn.before g)).marked q) h)

  or_left : (a b : Bool) → a ≡ true → (a || b) ≡ true
  or_left a b h = grind arith

  known : (names : List Path) (g : Nodes) → IsWide w w' names g → (q : Path) → IsIn (outputs j) q → (view_of o.read names g).has_record q ≡ true → ((now o w').has_record q || (now o w').marked q) ≡ true
  known names g k q own_q is =
      by_test (bytes_eq q p)
      (λ h. or_left ((now o w').has_record q) ((now o w').marked q)
      (has_now q ∙ subst (λ x. (now o w).has_record x ≡ true) (sym (same_place q p h))
      (each_image o.read w (λ v. v.has_record p ≡ true → (now o w).has_record p ≡ true) known_here names (turn.before g) (turn.image names g k)
      (subst (λ x. (view_of o.read names (turn.before g)).has_record x ≡ true) (same_place q p h) (sym (has_same names g q) ∙ is)))))
      (λ h. (λ n. has_now q n || marked_now q h n)
      ∙ each_image o.read w (HasKnown o (now o w)) m.known names (turn.before g) (turn.image names g k) q (sym (has_same names g q) ∙ is))

  pub unmark_change : Change o entry H j e e' w w'
  unmark_change =
      each_pair_change o texts.naming entry H j e e' w w' m.formed turn pair
      known
      (of_wide o.read texts.naming w m.formed w' (HasNoNew o (now o w'))
      (λ names g k. subst (HasNoNew o (now o w')) (view_is names g) (new_on names g k (each_image o.read w (HasNoNew o (now o w)) m.no_new names (turn.before g) (turn.image names g k)))))
      (of_wide o.read texts.naming w m.formed w' (λ v. Sound o.act H v e') (λ names g k. sound_less o.act H (view_of o.read names g) e e' fewer (safe names g k).0))
      (of_wide o.read texts.naming w m.formed w' (HasSources o (now o entry)) (λ names g k. (safe names g k).1))
      (λ x f. others (mark_place x) (texts.marks.mark_mark p x ∙ by_test (bytes_eq x p) (λ h. absurd (f (subst (λ y. IsIn (outputs j) y) (sym (same_place x p h)) i))) (λ h. h)))
      (λ x f. others (note_place x) (texts.marks.mark_note p x))
