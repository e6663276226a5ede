-- The mark of an output is removed, by a job whose records are firm or one of which nothing is left: the change.
use Rattle.smk_laws_protocol.proofs.Stays.{in_left}
use Rattle.std.proofs.Common.{◌≡◌, Bool, true, false, List, [], ◌∷◌, ◌++◌, refl, sym, ap, subst, inr, arith, ◌∙◌, Option, Some, None}
use Rattle.std.specs.Prelude.{bytes_eq, ◌||◌, if◌then◌else◌, IsTrue, IsSome}
use Rattle.smk_record.specs.declared.record.Record.{Record}
use Rattle.smk_world.specs.declared.event.Node.{Node}
use Rattle.smk_world.specs.Trees.{Path, IsIn, Each, is_path_text}
use Rattle.smk_store.specs.Images.{is_outside}
use Rattle.smk_base.specs.Path.{is_under, is_at_or_under}
use Rattle.smk_store.specs.Trust.{Versions, Eased}
use Rattle.smk_laws_protocol.proofs.View.{View, Sound}
use Rattle.smk_laws_protocol.proofs.Views.{Nodes, EachImage, HasNames, reads, view_of, view_by, path_node, place_node}
use Rattle.smk_world.specs.World.{World, IsFormed, reading}
use Rattle.smk_base.specs.Place.{mark_place, record_place, note_place}
use Rattle.smk_store.specs.Soundness.{Outside}
use Rattle.smk_laws_protocol.specs.Protocol.{kept_at, OpenJob, Recorded, Dropped, RunState, outputs, record_of, keeps, eased_by, own}
use Rattle.smk_laws_protocol.proofs.Rows.{now}
use Rattle.smk_laws_protocol.proofs.Between.{Midway, Fits, InPhase, IsKnown, IsGone, is_made, HasSources, HoldsGiven}
use Rattle.smk_laws_protocol.proofs.Basics.{each_in, in_here, by_test, clash, none_some, some_same}
use Rattle.smk_laws_protocol.proofs.Change.{Change}
use Rattle.smk_laws_protocol.proofs.Easing.{unmark_gone}
use Rattle.smk_laws_protocol.proofs.Marking.{MayUnmark}
use Rattle.smk_laws_protocol.proofs.Naming.{IsImage, IsWide, each_image, now_image}
use Rattle.smk_laws_protocol.proofs.OwnHolds.{own_at, recorded, reads_fall}
use Rattle.smk_base.proofs.Places.{same_place}
use Rattle.smk_laws_protocol.proofs.Own.{Falls}
use Rattle.smk_laws_protocol.proofs.Texts.{Texts}
use Rattle.smk_laws_protocol.proofs.Turns.{Turn, turn_within, same_change}
use Rattle.smk_laws_protocol.proofs.UnmarkChange.{unmark_change}
use Rattle.smk_laws_protocol.proofs.Unmark.{IsReady, unmark_eased, unmark_fresh}

no_under : (a b : Bool) → (a || b) ≡ false → b ≡ false
no_under a b h = grind arith

not_under : (a b : Bool) → a ≡ false → b ≡ false → (a || b) ≡ false
not_under a b h k = grind arith

the_value : {A : Type 0} (x : Option A) → IsSome x → (a : A) × (x ≡ Some a)
the_value None h = clash false h refl
the_value (Some a) h = (a, refl)

no_cons : {A : Type 0} {x : A} {xs : List A} → x ∷ xs ≡ [] → ⊥
no_cons h = grind arith

module _
    (o : Outside) (texts : Texts o.read) (entry : World) (H : Versions) (s : RunState) (js ks : List OpenJob) (j : OpenJob) (w w' : World)
    (m : Midway o entry H (record s { jobs = js ++ j ∷ ks }) w) (e' : Eased) (fewer : (p : Path) (r : Record) → e' p r → eased_by (js ++ j ∷ ks) p r)
    (formed : IsFormed w') (covered : HasNames w'.names (reads w)) (p : Path) (i : IsIn (outputs j) p)
    (others : (q : Path) → is_at_or_under q (mark_place p) ≡ false → w'.nodes q ≡ w.nodes q) where
  abbrev e : Eased
  e = eased_by (js ++ j ∷ ks)

  fits : Fits o entry e s.top w j
  fits = each_in (Fits o entry e s.top w) (js ++ j ∷ ks) j m.fits (in_here js ks j)

  phase : InPhase o w j
  phase = each_in (InPhase o w) (js ++ j ∷ ks) j m.phases (in_here js ks j)

  -- nothing was there: at most what is under the place changes, which no view shows
  module _ (same : w'.nodes (mark_place p) ≡ w.nodes (mark_place p)) where
    at_all : (q : Path) → is_under q (mark_place p) ≡ false → w'.nodes q ≡ w.nodes q
    at_all q h =
        by_test (bytes_eq q (mark_place p))
        (λ k. subst (λ y. w'.nodes y ≡ w.nodes y) (sym (same_place q (mark_place p) k)) same)
        (λ k. others q (not_under (bytes_eq q (mark_place p)) (is_under q (mark_place p)) k h))

    abbrev turn : Turn w w'
    turn = turn_within w w' formed covered (λ q. is_under q (mark_place p)) at_all

    at_other : (g : Nodes) (q : Path) → is_under q (mark_place p) ≡ false → turn.before g q ≡ g q
    at_other g q h = ap (λ (b : Bool). if b then reads w q else g q) h

    not_record : (q : Path) → is_under (record_place q) (mark_place p) ≡ false
    not_record q = no_under (bytes_eq (record_place q) (mark_place p)) (is_under (record_place q) (mark_place p)) (texts.marks.mark_record p q)

    not_mark : (q : Path) → is_under (mark_place q) (mark_place p) ≡ false
    not_mark q = (texts.above.mark_free q).above_mark p

    not_note : (q : Path) → is_under (note_place q) (mark_place p) ≡ false
    not_note q = no_under (bytes_eq (note_place q) (mark_place p)) (is_under (note_place q) (mark_place p)) (texts.marks.mark_note p q)

    at_path : (g : Nodes) (q : Path) → path_node (turn.before g) q ≡ path_node g q
    at_path g q = go (is_outside q) refl
      where
        go : (b : Bool) → is_outside q ≡ b → (if b then turn.before g q else None) ≡ (if b then g q else None)
        go true h = at_other g q (no_under (bytes_eq q (mark_place p)) (is_under q (mark_place p)) (texts.marks.mark_path p q h))
        go false h = refl

    pub unmark_nothing : Change o entry H j e e' w w'
    unmark_nothing =
        same_change o texts.naming entry H j e e' s.top s.steady w w' turn m.images fewer
        (λ names g k n. view_by o.read names (λ q. at_path g q n) (λ q. if is_path_text q then at_other g (record_place q) (not_record q) n else None) (λ q. if is_path_text q then at_other g (mark_place q) (not_mark q) n else None) (λ q. if is_path_text q then at_other g (note_place q) (not_note q) n else None))
        (λ x n k. at_all (mark_place x) (not_mark x) ∙ k)
        (λ x n k. at_all (note_place x) (not_note x) ∙ k)

  module _ (recorded_now : j.phase ≡ Recorded) where
    known : (names : List Path) (f : Nodes) → IsImage w names f → IsKnown o (now o w) j (view_of o.read names f) p
    known names f k = each_in (IsKnown o (now o w) j (view_of o.read names f)) (outputs j) p (each_image o.read w (λ v. Each (IsKnown o (now o w) j v) (outputs j)) (phase.known recorded_now) names f k) i

    known_now : IsKnown o (now o w) j (now o w) p
    known_now = known w.names (reads w) (now_image w m.images.formed)

    falls : Falls (record_of j p)
    falls = reads_fall o p (place_node (reads w) record_place p) (record_of j p) known_now.reads

    made : (names : List Path) (f : Nodes) → IsImage w names f → HoldsGiven o (now o w) j (view_of o.read names f) p
    made names f k =
        each_in (HoldsGiven o (now o w) j (view_of o.read names f)) (outputs j) p
        (each_image o.read w (λ v. Each (HoldsGiven o (now o w) j v) (outputs j)) (phase.made (ap (is_made o) recorded_now)) names f k) i

    abbrev Ready : View → Type 0
    Ready v = IsReady o texts.marks entry H e w w' j p falls (recorded o texts entry H s js ks j w m p) v

    ready : EachImage o.read w Ready
    ready names f rising complete names_now leaves =
        let k : IsImage w names f = record { rising = rising; complete = complete; covered = names_now; leaves = leaves } in
        record {
          sound = m.images.sound names f rising complete names_now leaves;
          sources = m.images.sources names f rising complete names_now leaves;
          stands = (known names f k).stands;
          reads = (known names f k).reads;
          own = λ chain. own_at o texts entry H s js ks j w m names f k p (known names f k).reads chain (made names f k);
        }

    own_record : EachImage o.read w (λ v. (r : Record) → v.record_at p ≡ Some r → (r ≡ record_of j p) × ((now o w).record_at p ≡ Some r) × ((now o w).listed p ≡ v.listed p))
    own_record names f rising complete names_now leaves r at =
        let k : IsImage w names f = record { rising = rising; complete = complete; covered = names_now; leaves = leaves } in
        let here = known names f k in
        let is = some_same (sym at ∙ here.reads) in
        (is, known_now.reads ∙ ap Some (sym is), known_now.lists ∙ sym here.lists)

    change_by : ((names : List Path) (g : Nodes) → IsWide w w' names g → Sound o.act H (view_of o.read names g) e × HasSources o (now o entry) (view_of o.read names g)) → Change o entry H j e e' w w'
    change_by safe = unmark_change o texts entry H j e e' s.top s.steady w w' m.images fewer formed covered p i others own_record (λ names f rising complete names_now leaves h. known_now.stands) safe

    pub unmark_recorded : (n : Node) → reading (w.nodes (mark_place p)) ≡ Some n → Change o entry H j e e' w w'
    unmark_recorded n stands = by_kept j.kept refl
      where
        un : MayUnmark w w' p n
        un = record { stands = stands; others = others }

        restored : (j.kept ≡ [] → ⊥) → e p (record_of j p)
        restored kept = let r = the_value (kept_at j.kept p) (fits.kept_all kept p i) in (j, in_here js ks j, ap keeps recorded_now, record { found = r.0; kept = r.1; is = inr refl })

        by_kept : (kept : List (Path × Record)) → j.kept ≡ kept → Change o entry H j e e' w w'
        by_kept [] h =
            change_by (λ names g k. unmark_fresh o texts.marks entry H e w w' j p falls (recorded o texts entry H s js ks j w m p) (each_in (λ x. IsTrue (is_path_text x)) (own j) p fits.texts (in_left (outputs j) j.logs p i)) n un
            (λ names f rising complete names_now leaves. (ready names f rising complete names_now leaves, fits.unnamed h names f rising complete names_now leaves))
            names g k.image.rising k.image.complete k.before k.image.leaves)
        by_kept (x ∷ xs) h =
            change_by (λ names g k. unmark_eased o texts.marks entry H e w w' j p falls (recorded o texts entry H s js ks j w m p) (restored (λ none. no_cons (sym h ∙ none))) (each_in (λ x. IsTrue (is_path_text x)) (own j) p fits.texts (in_left (outputs j) j.logs p i)) n un
            ready names g k.image.rising k.image.complete k.before k.image.leaves)

  module _ (dropped : j.phase ≡ Dropped) where
    gone : EachImage o.read w (λ v. IsGone o v p)
    gone names f rising complete names_now leaves = each_in (IsGone o (view_of o.read names f)) (outputs j) p (phase.gone dropped names f rising complete names_now leaves) i

    pub unmark_dropped : (n : Node) → reading (w.nodes (mark_place p)) ≡ Some n → Change o entry H j e e' w w'
    unmark_dropped n stands =
        unmark_change o texts entry H j e e' s.top s.steady w w' m.images fewer formed covered p i others
        (λ names f rising complete names_now leaves r at. none_some ((view_of o.read names f).record_at p) (gone names f rising complete names_now leaves).no_record at)
        (λ names f rising complete names_now leaves h. clash ((view_of o.read names f).has_record p) h (gone names f rising complete names_now leaves).no_bytes)
        (λ names g k. unmark_gone o texts.marks entry H e w w' p (each_in (λ x. IsTrue (is_path_text x)) (own j) p fits.texts (in_left (outputs j) j.logs p i)) n (record { stands = stands; others = others })
        (λ names f rising complete names_now leaves. ((m.images.sound names f rising complete names_now leaves, m.images.sources names f rising complete names_now leaves), gone names f rising complete names_now leaves))
        names g k.image.rising k.image.complete k.before k.image.leaves)
