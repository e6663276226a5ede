-- All that the law asks of texts.
use Rattle.smk_store.specs.Images.{is_outside}
use Rattle.std.proofs.Common.{◌≡◌, ◌⊎◌, ℕ, suc, true, false, [], ◌∷◌, ◌++◌, length, drop, ◌+◌, refl, sym, ap, subst, inl, inr, arith, ◌∙◌}
use Rattle.std.specs.Prelude.{bytes_eq, ◌||◌}
use Rattle.smk_world.specs.Trees.{Path}
use Rattle.smk_base.specs.Path.{is_under, overlaps, is_at_or_under, own_folder}
use Rattle.smk_world.specs.World.{folders_above}
use Rattle.smk_base.specs.Place.{mark_place, record_place, note_place, lock_place}
use Rattle.smk_laws_protocol.proofs.Basics.{by_test, clash}
use Rattle.smk_laws_protocol.proofs.Crux.{Outside_paths}
use Rattle.smk_laws_protocol.proofs.Holders.{FolderLaws, IsOver}
use Rattle.smk_laws_protocol.proofs.Places.{PlaceLaws}
use Rattle.smk_laws_protocol.proofs.Records.{RecordLaws}
use Rattle.smk_base.proofs.Places.{same_place, place_itself}
use Rattle.smk_laws_protocol.proofs.TextFolders.{folders_are, folder_above, any_among}
use Rattle.smk_base.proofs.Under.{or_cases, rest_under, never_under_itself, at_itself, at_when_under, at_or_under_further, overlaps_at, overlaps_over, overlaps_above_both, false_of_not}
use Rattle.smk_laws_protocol.proofs.Texts.{NoteLaws, LockLaws, AboveLaws, OverlapLaws, FarLaws, DropLaws, TextLaws}
use Rattle.smk_base.proofs.Apart as apart

never : (p q : Path) → bytes_eq q p ≡ false → q ≡ p → ⊥
never p q h e = clash (bytes_eq q p) (subst (λ x. bytes_eq q x ≡ true) e (place_itself q)) h

pub outside_own : (p : Path) → is_outside p ≡ true → is_at_or_under p own_folder ≡ false
outside_own p h = false_of_not (is_at_or_under p own_folder) h

outside-record : (p q : Path) → is_outside p ≡ true → apart.IsApart p (record_place q)
outside-record p q h = apart.outside-own p (record_place q) (outside_own p h) refl

outside-mark : (p q : Path) → is_outside p ≡ true → apart.IsApart p (mark_place q)
outside-mark p q h = apart.outside-own p (mark_place q) (outside_own p h) refl

outside-note : (p q : Path) → is_outside p ≡ true → apart.IsApart p (note_place q)
outside-note p q h = apart.outside-own p (note_place q) (outside_own p h) refl

outside-lock : (p : Path) → is_outside p ≡ true → apart.IsApart p lock_place
outside-lock p h = apart.outside-own p lock_place (outside_own p h) refl

mark_laws : PlaceLaws
mark_laws =
    record {
      mark_mark = λ p q. by_test (bytes_eq q p)
          (λ h. subst (λ x. is_at_or_under (mark_place q) (mark_place x) ≡ true) (same_place q p h) (at_itself (mark_place q)) ∙ sym h)
          (λ h. (apart.mark-mark q p (never p q h)).at_or_under ∙ sym h);
      mark_record = λ p q. (apart.record-mark q p).at_or_under;
      mark_note = λ p q. (apart.mark-note p q).at_or_over;
      mark_path = λ p q h. (outside-mark q p h).at_or_under;
    }

record_laws : RecordLaws
record_laws =
    record {
      record_record = λ p q h. (apart.record-record q p (never p q h)).at_or_under;
      record_mark = λ p q. (apart.record-mark p q).at_or_over;
      record_note = λ p q. (apart.record-note p q).at_or_over;
      record_path = λ p q h. (outside-record q p h).at_or_under;
    }

note_laws : NoteLaws
note_laws =
    record {
      note_note = λ p q. by_test (bytes_eq q p)
          (λ h. subst (λ x. is_at_or_under (note_place q) (note_place x) ≡ true) (same_place q p h) (at_itself (note_place q)) ∙ sym h)
          (λ h. (apart.note-note q p (never p q h)).at_or_under ∙ sym h);
      note_record = λ p q. (apart.record-note q p).at_or_under;
      note_mark = λ p q. (apart.mark-note q p).at_or_under;
      note_path = λ p q h. (outside-note q p h).at_or_under;
    }

lock_laws : LockLaws
lock_laws =
    record {
      lock_record = λ q. (apart.record-lock q).at_or_under;
      lock_mark = λ q. (apart.mark-lock q).at_or_under;
      lock_note = λ q. (apart.note-lock q).at_or_under;
      lock_path = λ q h. (outside-lock q h).at_or_under;
    }

far_laws : FarLaws
far_laws =
    record {
      record_far = λ p q x h under. by_test (is_at_or_under q (record_place x)) (λ k. clash (overlaps p (record_place x)) (overlaps_above_both q p (record_place x) under k) (outside-record p x h).overlap) (λ k. k);
      record_apart = λ p x h. (outside-record p x h).overlap;
      mark_far = λ p q x h under. by_test (is_at_or_under q (mark_place x)) (λ k. clash (overlaps p (mark_place x)) (overlaps_above_both q p (mark_place x) under k) (outside-mark p x h).overlap) (λ k. k);
    }

above_laws : AboveLaws
above_laws =
    record {
      path_free = λ p h. record { above_record = λ q. (outside-record p q h).under; above_mark = λ q. (outside-mark p q h).under; above_note = λ q. (outside-note p q h).under };
      mark_free = λ p. record { above_record = λ q. (apart.record-mark q p).over; above_mark = λ q. apart.mark_under_mark p q; above_note = λ q. (apart.mark-note p q).under };
      record_free = λ p. record { above_record = λ q. apart.record_under_record p q; above_mark = λ q. (apart.record-mark p q).under; above_note = λ q. (apart.record-note p q).under };
      note_free = λ p. record { above_record = λ q. (apart.record-note q p).over; above_mark = λ q. (apart.mark-note q p).over; above_note = λ q. apart.note_under_note p q };
      lock_free = record { above_record = λ q. (apart.record-lock q).over; above_mark = λ q. (apart.mark-lock q).over; above_note = λ q. (apart.note-lock q).over };
      mark_above = λ p q h. (outside-mark q p h).over;
      record_above = λ p q h. (outside-record q p h).over;
      note_above = λ p q h. (outside-note q p h).over;
      lock_above = λ q h. (outside-lock q h).over;
    }

outside_laws : Outside_paths
outside_laws =
    record {
      record_out = λ h q path. (outside-record h q path).at_or_over;
      mark_out = λ h q path. (outside-mark h q path).at_or_over;
      note_out = λ h q path. (outside-note h q path).at_or_over;
    }

turned : (p q : Path) → overlaps p q ≡ true → overlaps q p ≡ true
turned p q h = go (or_cases (bytes_eq p q) (is_under p q || is_under q p) h)
  where
    inner : (is_under p q ≡ true) ⊎ (is_under q p ≡ true) → overlaps q p ≡ true
    inner (inl u) = overlaps_over q p u
    inner (inr u) = overlaps_at q p (at_when_under q p u)

    go : (bytes_eq p q ≡ true) ⊎ ((is_under p q || is_under q p) ≡ true) → overlaps q p ≡ true
    go (inl e) = subst (λ x. overlaps x p ≡ true) (same_place p q e) (overlaps_at p p (at_itself p))
    go (inr k) = inner (or_cases (is_under p q) (is_under q p) k)

swapped : (p q : Path) → overlaps p q ≡ overlaps q p
swapped p q = by_test (overlaps p q) (λ h. h ∙ sym (turned p q h)) (λ h. h ∙ sym (by_test (overlaps q p) (λ k. clash (overlaps p q) (turned q p k) h) (λ k. k)))

downward : (p q x : Path) → is_at_or_under q p ≡ true → overlaps q x ≡ true → overlaps p x ≡ true
downward p q x under h = go (or_cases (bytes_eq q x) (is_under q x || is_under x q) h)
  where
    inner : (is_under q x ≡ true) ⊎ (is_under x q ≡ true) → overlaps p x ≡ true
    inner (inl u) = overlaps_above_both q p x under (at_when_under q x u)
    inner (inr u) = turned x p (overlaps_at x p (at_or_under_further x q p (at_when_under x q u) under))

    go : (bytes_eq q x ≡ true) ⊎ ((is_under q x || is_under x q) ≡ true) → overlaps p x ≡ true
    go (inl e) = subst (λ y. overlaps p y ≡ true) (same_place q x e) (turned q p (overlaps_at q p under))
    go (inr k) = inner (or_cases (is_under q x) (is_under x q) k)

overlap_laws : OverlapLaws
overlap_laws =
    record {
      self = λ p. overlaps_at p p (at_itself p);
      swap = swapped;
      within = λ p q h. overlaps_at q p h;
      above = λ p q h. overlaps_over p q h;
      down = downward;
      folder = folder_above;
      covers = λ p q. ap (λ b. bytes_eq q p || b) (any_among (folders_above q) p ∙ folders_are q p);
    }

over_at : (q h : Path) → IsOver q h → is_at_or_under q h ≡ true
over_at q h (inl e) = subst (λ x. is_at_or_under q x ≡ true) (sym e) (at_itself q)
over_at q h (inr i) = at_when_under q h (folder_above q h i)

holder_laws : FolderLaws
holder_laws =
    record {
      nested = λ q h g a b. overlaps_above_both q h g (over_at q h a) (over_at q g b);
      proper = λ q i. clash (is_under q q) (folder_above q q i) (never_under_itself q);
    }

pub drop_rest : (p rest : Path) → drop (length p + 1) (p ++ 47 ∷ rest) ≡ rest
drop_rest [] rest = refl
drop_rest (b ∷ p) rest = ap (λ n. drop n (b ∷ p ++ 47 ∷ rest)) (more (length p)) ∙ drop_rest p rest
  where
    more : (n : ℕ) → suc n + 1 ≡ suc (n + 1)
    more n = grind arith

drop_laws : DropLaws
drop_laws =
    record {
      not_self = λ p q h. by_test (bytes_eq p q) (λ e. clash (is_under p p) (subst (λ x. is_under x p ≡ true) (sym (same_place p q e)) h) (never_under_itself p)) (λ e. e);
      drop_same = λ p q x h k e.
          let a = rest_under q p h in
          let b = rest_under x p k in
          let same = sym (drop_rest p a.0) ∙ ap (drop (length p + 1)) (sym a.1) ∙ e ∙ ap (drop (length p + 1)) b.1 ∙ drop_rest p b.0 in
          a.1 ∙ ap (λ r. p ++ 47 ∷ r) same ∙ sym b.1;
    }

pub text_laws : TextLaws
text_laws =
    record {
      marks = mark_laws;
      records = record_laws;
      notes = note_laws;
      lock = lock_laws;
      far = far_laws;
      above = above_laws;
      outside = outside_laws;
      overlap = overlap_laws;
      holders = holder_laws;
      parts_of = drop_laws;
      folder_in = λ p q h. folders_are p q ∙ h;
    }
