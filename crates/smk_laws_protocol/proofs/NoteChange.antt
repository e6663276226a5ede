-- A note of an open job's log is made, or may have been made by a call that failed.
use Rattle.std.proofs.Common.{◌≡◌, ◌⊎◌, ℕ, Bool, true, false, List, [], ◌∷◌, refl, sym, ap, subst, inl, inr, arith, ◌∙◌, Option, Some, None}
use Rattle.std.specs.Prelude.{bytes_eq, is_some, if◌then◌else◌, IsTrue, ◌&&◌, ◌||◌, not}
use Rattle.std.specs.List.{list_any}
use Rattle.smk_record.specs.declared.record.Record.{Record}
use Rattle.smk_world.specs.declared.recipe.Kind.{Kind}
use Rattle.smk_world.specs.declared.recipe.Kind.TheVariants.{Plain, Folder as FolderKind}
use Rattle.smk_world.specs.declared.event.NodeState.{NodeState}
use Rattle.smk_world.specs.declared.event.NodeState.TheVariants.{Owned, Known}
use Rattle.smk_world.specs.declared.event.Node.{Node}
use Rattle.smk_world.specs.Trees.{Path, Act, IsIn, is_path_text}
use Rattle.smk_store.specs.Images.{is_outside}
use Rattle.smk_base.specs.Path.{is_under, is_at_or_under}
use Rattle.smk_world.specs.World.{folders_above, World, IsFormed, reading, reads_nothing}
use Rattle.smk_store.specs.Trust.{Versions, Eased, none_eased}
use Rattle.smk_laws_protocol.proofs.View.{kind_in, View, Sound, source_at, is_source, is_known, is_covered, is_whole}
use Rattle.smk_laws_protocol.proofs.Views.{Nodes, HasNames, reads, view_of, view_by, path_node, place_node}
use Rattle.smk_base.specs.Place.{mark_place, record_place, note_place}
use Rattle.smk_store.specs.Soundness.{Outside}
use Rattle.smk_laws_protocol.specs.Protocol.{OpenJob, own}
use Rattle.smk_laws_protocol.proofs.Rows.{now}
use Rattle.smk_laws_protocol.proofs.Between.{Fits, Images, HasNoNew, HasSources}
use Rattle.smk_laws_protocol.proofs.Basics.{by_test, clash}
use Rattle.smk_laws_protocol.proofs.Change.{Change}
use Rattle.smk_laws_protocol.proofs.Events.{same_source, no_overlap}
use Rattle.smk_laws_protocol.proofs.Moves.{covers, sound_on}
use Rattle.smk_laws_protocol.proofs.MarkChange.{covers_overlaps}
use Rattle.smk_laws_protocol.proofs.Naming.{each_image, of_wide}
use Rattle.smk_laws_protocol.proofs.Places.{over, over_other}
use Rattle.smk_base.proofs.Places.{same_place, place_itself}
use Rattle.smk_laws_protocol.proofs.Texts.{Texts}
use Rattle.smk_laws_protocol.proofs.Turns.{Turn, turn_within, Pair, known_by, each_pair_change, of_pair, fewer_counts}

-- the view with other notes
abbrev pub with_notes : View → (Path → Bool) → View
with_notes v notes = record v { noted = notes }

any_more : (k k' : Path → Bool) (p : Path) → ((f : Path) → bytes_eq f p ≡ false → k' f ≡ k f) → (fs : List Path) → list_any (λ f. bytes_eq f p) fs ≡ false → list_any k' fs ≡ list_any k fs
any_more k k' p h [] n = refl
any_more k k' p h (f ∷ fs) n = λ i. h f (left (bytes_eq f p) (list_any (λ f. bytes_eq f p) fs) n) i || any_more k k' p h fs (right (bytes_eq f p) (list_any (λ f. bytes_eq f p) fs) n) i
  where
    left : (a b : Bool) → (a || b) ≡ false → a ≡ false
    left a b h = grind arith

    right : (a b : Bool) → (a || b) ≡ false → b ≡ false
    right a b h = grind arith

-- a note more at p, where no source is at p or under it: nothing else changes
module _ (v : View) (notes : Path → Bool) (p : Path) (more : (q : Path) → bytes_eq q p ≡ false → notes q ≡ v.noted q) (none : v.noted p ≡ false)
    (no_source : (q : Path) → is_source v q ≡ true → covers p q ≡ false) where
  known_same : (q : Path) → bytes_eq q p ≡ false → is_known (with_notes v notes) q ≡ is_known v q
  known_same q h = ap (λ b. v.has_record q || v.marked q || b) (more q h)

  -- what is known stays known
  known_on : (q : Path) → is_known v q ≡ true → is_known (with_notes v notes) q ≡ true
  known_on q k = by_test (bytes_eq q p) (λ h. here (v.has_record q) (v.marked q) (v.noted q) (notes q) (subst (λ x. v.noted x ≡ false) (sym (same_place q p h)) none) k) (λ h. known_same q h ∙ k)
    where
      here : (a b c d : Bool) → c ≡ false → (a || b || c) ≡ true → (a || b || d) ≡ true
      here a b c d h k = grind arith

  any_on : (k k' : Path → Bool) → ((f : Path) → k f ≡ true → k' f ≡ true) → (fs : List Path) → list_any k fs ≡ true → list_any k' fs ≡ true
  any_on k k' on [] h = h
  any_on k k' on (f ∷ fs) h = let a = on f in let b = any_on k k' on fs in grind arith

  covered_on : (q : Path) → is_covered v q ≡ true → is_covered (with_notes v notes) q ≡ true
  covered_on q h =
      let a = known_on q in
      let b = any_on (is_known v) (is_known (with_notes v notes)) known_on (folders_above q) in
      or_on (is_known v q) (list_any (is_known v) (folders_above q)) (is_known (with_notes v notes) q) (list_any (is_known (with_notes v notes)) (folders_above q)) a b h
    where
      or_on : (a b c d : Bool) → (a ≡ true → c ≡ true) → (b ≡ true → d ≡ true) → (a || b) ≡ true → (c || d) ≡ true
      or_on true b c d f g h = rw (f refl) refl
      or_on false b c d f g h = let k = g h in grind arith

  noted_source : (q : Path) → is_source (with_notes v notes) q ≡ is_source v q
  noted_source q =
      by_test (covers p q)
      (λ c. go c (is_source v q) refl)
      (λ c. λ i. is_path_text q && is_some (v.file q) && not (known_same q (left (bytes_eq q p) (list_any (λ f. bytes_eq f p) (folders_above q)) c) i
      || any_more (is_known v) (is_known (with_notes v notes)) p known_same (folders_above q) (right (bytes_eq q p) (list_any (λ f. bytes_eq f p) (folders_above q)) c) i))
    where
      left : (a b : Bool) → (a || b) ≡ false → a ≡ false
      left a b h = grind arith

      right : (a b : Bool) → (a || b) ≡ false → b ≡ false
      right a b h = grind arith

      less : (a b c d : Bool) → (a && b && not c) ≡ false → (c ≡ true → d ≡ true) → (a && b && not d) ≡ false
      less a b c d h f = grind arith

      go : covers p q ≡ true → (b : Bool) → is_source v q ≡ b → is_source (with_notes v notes) q ≡ is_source v q
      go c true s = clash (covers p q) c (no_source q s)
      go c false s = less (is_path_text q) (is_some (v.file q)) (is_covered v q) (is_covered (with_notes v notes) q) s (covered_on q) ∙ sym s

  pub noted_source_at : (q : Path) → source_at (with_notes v notes) q ≡ source_at v q
  noted_source_at q = ap (λ b. if b then v.file q else None) (noted_source q)

  pub noted_sound : (act : Act) (H : Versions) (e e' : Eased) → ((p : Path) (r : Record) → e' p r → e p r) → Sound act H v e → Sound act H (with_notes v notes) e'
  noted_sound act H e e' fewer sound =
      sound_on act H v (with_notes v notes) e e' sound noted_source_at
      (λ q h r s. record { no_source = sym (noted_source q) ∙ s.no_source; holder = s.holder; clear = (s.clear.0, clear h r s.clear.1) })
      (λ q r x s is c i. sound.has_recorded q r x s is c i)
      (λ q r is c chain whole. (is, sound.holds q r is c chain (whole_on r q (kind_in r q) whole)))
    where
      whole_on : (r : Record) (q : Path) (k : Kind) → IsTrue (is_whole (with_notes v notes) q k) → IsTrue (is_whole v q k)
      whole_on r q Plain h = h
      whole_on r q FolderKind h = h

      clear : (h : Path) (r : Record) → (v.marked h ≡ false) ⊎ e' h r → (v.marked h ≡ false) ⊎ e h r
      clear h r (inl k) = inl k
      clear h r (inr k) = inr (fewer h r k)

-- a note may have been made at a place where nothing read
pub record MayNote (w w' : World) (p : Path) : Type 0 where
  pub nothing : reads_nothing (w.nodes (note_place p)) ≡ true
  pub others : (q : Path) → bytes_eq q (note_place p) ≡ false → w'.nodes q ≡ w.nodes q

nothing_reads : (s : NodeState) → reads_nothing s ≡ true → is_some (reading s) ≡ false
nothing_reads Owned h = refl
nothing_reads (Known None besides) h = refl
nothing_reads (Known (Some n) besides) h = clash false h refl

eq_false : (p q : Path) → is_at_or_under q p ≡ false → bytes_eq q p ≡ false
eq_false p q h = left (bytes_eq q p) (is_under q p) h
  where
    left : (a b : Bool) → (a || b) ≡ false → a ≡ false
    left a b h = by_test a (λ e. clash (a || b) (rw e refl) h) (λ e. e)

module _
    (o : Outside) (texts : Texts o.read) (entry : World) (H : Versions) (j : OpenJob) (e e' : Eased) (top : ℕ) (steady : Bool) (w w' : World)
    (m : Images o entry H e top steady w) (fits : Fits o entry e top w j) (fewer : (p : Path) (r : Record) → e' p r → e p r)
    (formed : IsFormed w') (covered : HasNames w'.names (reads w)) (p : Path) (i : IsIn (own j) p) (made : MayNote w w' p) where
  abbrev turn : Turn w w'
  turn = turn_within w w' formed covered (λ q. is_at_or_under q (note_place p)) (λ q h. made.others q (eq_false (note_place p) q h))

  view_is : (names : List Path) (g : Nodes) → with_notes (view_of o.read names (turn.before g)) (λ q. is_some (place_node g note_place q)) ≡ view_of o.read names g
  view_is names g k =
      view_by o.read names (λ q. at_path q k)
      (λ q. if is_path_text q then over_other g (reads w) (note_place p) (record_place q) (texts.notes.note_record p q) k else None)
      (λ q. if is_path_text q then over_other g (reads w) (note_place p) (mark_place q) (texts.notes.note_mark p q) k else None)
      (place_node g note_place)
    where
      at_path : (q : Path) → path_node (over g (note_place p) (reads w)) q ≡ path_node g q
      at_path q = go (is_outside q) refl
        where
          go : (b : Bool) → is_outside q ≡ b → (if b then over g (note_place p) (reads w) q else None) ≡ (if b then g q else None)
          go true e = over_other g (reads w) (note_place p) q (texts.notes.note_path p q e)
          go false e = refl

  pair : (names : List Path) (g : Nodes) → Pair H j e e' (view_of o.read names (turn.before g)) (view_of o.read names g)
  pair names g =
      subst (Pair H j e e' (view_of o.read names (turn.before g))) (view_is names g)
      (let v = view_of o.read names (turn.before g) in
      record {
        differs = record { nodes = λ x f. record { file = refl; folder = refl; members = refl; tree = refl }; records = λ x f. record { has = refl; at = refl; listed = refl }; marks = λ x f. refl };
        counts = fewer_counts H j v e e' fewer;
        none_counts = fewer_counts H j v none_eased none_eased (λ p r h. h);
      })

  more : (names : List Path) (g : Nodes) (q : Path) → bytes_eq q p ≡ false → is_some (place_node g note_place q) ≡ (view_of o.read names (turn.before g)).noted q
  more names g q h = sym (ap (λ (n : Option Node). is_some (if is_path_text q then n else None)) (over_other g (reads w) (note_place p) (note_place q) (texts.notes.note_note p q ∙ h)))

  unnoted : (names : List Path) (g : Nodes) → (view_of o.read names (turn.before g)).noted p ≡ false
  unnoted names g = go (is_path_text p)
    where
      go : (t : Bool) → is_some (if t then turn.before g (note_place p) else None) ≡ false
      go true =
          ap (λ (b : Bool). is_some (if b then reads w (note_place p) else g (note_place p))) (texts.notes.note_note p p ∙ place_itself p)
          ∙ nothing_reads (w.nodes (note_place p)) made.nothing
      go false = refl

  none : (v : View) → HasSources o (now o entry) v → (q : Path) → is_source v q ≡ true → covers p q ≡ false
  none v sources q h = covers_overlaps texts.overlap p q (no_overlap q p (own j) (fits.no_source q (sym (same_source v (now o entry) sources q) ∙ h)) i)

  abbrev SameNew : View → View → Type 0
  SameNew v v' = ((q : Path) → v'.record_at q ≡ v.record_at q) × ((q : Path) → v'.listed q ≡ v.listed q)

  same_new : SameNew (now o w) (now o w')
  same_new = of_pair o texts.naming w w' m.formed turn SameNew (λ names g k. subst (SameNew (view_of o.read names (turn.before g))) (view_is names g) ((λ q. refl), (λ q. refl)))

  new_on : (v : View) (notes : Path → Bool) → HasNoNew o (now o w) v → HasNoNew o (now o w') (with_notes v notes)
  new_on v notes h q r at unmarked = let k = h q r at unmarked in (same_new.0 q ∙ k.0, same_new.1 q ∙ k.1)

  pub note_change : Change o entry H j e e' w w'
  note_change =
      each_pair_change o texts.naming entry H j e e' w w' m.formed turn
      (λ names g k. pair names g)
      (λ names g k q i is. known_by o texts.naming entry H e top steady w w' turn m (λ names g k q. sym (ap (λ (v : View). v.has_record q) (view_is names g))) (λ names g k q h. sym (ap (λ (v : View). v.marked q) (view_is names g)) ∙ h) names g k q is)
      (of_wide o.read texts.naming w m.formed w' (HasNoNew o (now o w'))
      (λ names g k. subst (HasNoNew o (now o w')) (view_is names g) (new_on (view_of o.read names (turn.before g)) (λ q. is_some (place_node g note_place q))
      (each_image o.read w (HasNoNew o (now o w)) m.no_new names (turn.before g) (turn.image names g k)))))
      (of_wide o.read texts.naming w m.formed w' (λ v. Sound o.act H v e') (λ names g k.
      subst (λ v. Sound o.act H v e') (view_is names g)
      (noted_sound (view_of o.read names (turn.before g)) (λ q. is_some (place_node g note_place q)) p (more names g) (unnoted names g)
      (none (view_of o.read names (turn.before g)) (each_image o.read w (HasSources o (now o entry)) m.sources names (turn.before g) (turn.image names g k)))
      o.act H e e' fewer (each_image o.read w (λ v. Sound o.act H v e) m.sound names (turn.before g) (turn.image names g k)))))
      (of_wide o.read texts.naming w m.formed w' (HasSources o (now o entry)) (λ names g k.
      let before = each_image o.read w (HasSources o (now o entry)) m.sources names (turn.before g) (turn.image names g k) in
      subst (HasSources o (now o entry)) (view_is names g)
      (λ q. noted_source_at (view_of o.read names (turn.before g)) (λ q. is_some (place_node g note_place q)) p (more names g) (unnoted names g) (none (view_of o.read names (turn.before g)) before) q ∙ before q)))
      (λ x f. made.others (mark_place x) (eq_false (note_place p) (mark_place x) (texts.notes.note_mark p x)))
      (λ x f. made.others (note_place x) (eq_false (note_place p) (note_place x) (texts.notes.note_note p x ∙ by_test (bytes_eq x p) (λ h. absurd (f (subst (λ y. IsIn (own j) y) (sym (same_place x p h)) i))) (λ h. h))))
