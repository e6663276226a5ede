-- A derivation goes on where only the jobs' own records, marks and notes come.
use Rattle.std.proofs.Common.{◌≡◌, ◌⊎◌, inl, inr, Bool, true, false, ◌&&◌, ◌||◌, not, List, [], ◌∷◌, flat_map, refl, sym, ap, subst, ◌∙◌, bytes_eq, true≢false}
use Rattle.smk_base.specs.Path.{overlaps}
use Rattle.smk_base.proofs.Apart.{apart_unless}
use Rattle.smk_base.proofs.Places.{and_first, and_second, place_itself}
use Rattle.smk_base.proofs.Under.{both_true, false_of_not, false_unless, never_both, or_cases, or_first, or_second}
use Rattle.smk_world.specs.Trees.{IsIn, Path}
use Rattle.smk_flow.specs.declared.job.Job.{Job}
use Rattle.smk_flow.specs.Flows.{Flow}
use Rattle.smk_store.specs.Images.{Image, is_known, stands}
use Rattle.smk_chain.specs.Derive.{Derived, Listings, derivation, has_record_or_mark, hinders, spots}
use Rattle.smk_laws_plan.specs.Current.{IsComplete}
use Rattle.smk_laws_plan.proofs.CurrentApart.{SpotsApart, spot_free, spots_apart}
use Rattle.smk_laws_plan.proofs.CurrentPaths.{among_in}
use Rattle.smk_laws_plan.proofs.PlanOne.{derived_clear}
use Rattle.smk_safe.proofs.Same.{same_derivation}
use Rattle.smk_laws_turns.specs.Deriving.{DerivationGoesOn}
use Rattle.smk_laws_plan.specs.Signs.{HasOwnSigns}

-- ## Spots that lie apart

overlaps_flipped : (p q : Path) → overlaps p q ≡ false → overlaps q p ≡ false
overlaps_flipped p q h = (apart_unless p q (λ t. never_both (overlaps p q) t h)).overlapped

two_apart :
    (ss : List (Path × Bool)) → SpotsApart ss → (s u : Path × Bool) → IsIn ss s → IsIn ss u → (s ≡ u → ⊥) → overlaps s.0 u.0 ≡ false
two_apart [] h s u i k other = absurd i
two_apart (x ∷ ss) h s u (inl e) (inl f) other = absurd (other (e ∙ sym f))
two_apart (x ∷ ss) h s u (inl e) (inr k) other =
    subst (λ (z : Path × Bool). overlaps z.0 u.0 ≡ false) (sym e) (overlaps_flipped u.0 x.0 (h.0 u k))
two_apart (x ∷ ss) h s u (inr i) (inl f) other = subst (λ (z : Path × Bool). overlaps s.0 z.0 ≡ false) (sym f) (h.0 s i)
two_apart (x ∷ ss) h s u (inr i) (inr k) other = two_apart ss h.1 s u i k other

-- ## What is known

sign_known : (a b c : Bool) → (a || b) ≡ true → (a || (b || c)) ≡ true
sign_known true b c h = refl
sign_known false true c h = refl
sign_known false false c h = absurd (never_both false h refl)

note_known : (a b c : Bool) → c ≡ true → (a || (b || c)) ≡ true
note_known a b c h = or_second a (b || c) (or_second b c h)

module _
    (flow : Flow) (first second : Image) (lists : Listings) (targets : List Path) (js : List Job) (complete : IsComplete first)
    (is : derivation flow first lists targets ≡ Derived js) (own : HasOwnSigns first second js) where
  apart : SpotsApart (flat_map spots js)
  apart = spots_apart first [] (flat_map spots js) (derived_clear flow first lists targets js complete is)

  -- what was known isn't in the way
  free_before : (s : Path × Bool) (q : Path) → IsIn (flat_map spots js) s → is_known first q ≡ true → hinders first s q ≡ false
  free_before s q at known =
      spot_free first [] (flat_map spots js) (derived_clear flow first lists targets js complete is) s q at
      (among_in first.known q (complete.known q known))

  noted_before : (q : Path) → first.noted q ≡ true → is_known first q ≡ true
  noted_before q h = note_known (stands (first.kept q)) (first.marked q) (first.noted q) h

  signed_before : (q : Path) → has_record_or_mark first q ≡ true → is_known first q ≡ true
  signed_before q h = sign_known (stands (first.kept q)) (first.marked q) (first.noted q) h

  not_another : (p q : Path) (flag : Bool) → not (bytes_eq p q) ≡ true → ◌≡◌ {A = Path × Bool} (p, flag) (q, flag) → ⊥
  not_another p q flag other e =
      let same : p ≡ q = ap (λ (s : Path × Bool). s.0) e in
      never_both (bytes_eq p q) (subst (λ x. bytes_eq p x ≡ true) same (place_itself p)) (false_of_not (bytes_eq p q) other)

  free_now : (s : Path × Bool) (q : Path) → IsIn (flat_map spots js) s → hinders second s q ≡ false
  free_now (p, true) q at =
      false_unless (hinders second (p, true) q)
      (λ h. hindered (and_first (overlaps p q) (second.noted q || (has_record_or_mark second q && not (bytes_eq p q))) h)
      (or_cases (second.noted q) (has_record_or_mark second q && not (bytes_eq p q))
      (and_second (overlaps p q) (second.noted q || (has_record_or_mark second q && not (bytes_eq p q))) h)))
    where
      by_note : overlaps p q ≡ true → (first.noted q ≡ true) ⊎ IsIn (flat_map spots js) (q, false) → ⊥
      by_note over (inl was) =
          never_both (hinders first (p, true) q)
          (both_true (overlaps p q) (first.noted q || (has_record_or_mark first q && not (bytes_eq p q))) over
          (or_first (first.noted q) (has_record_or_mark first q && not (bytes_eq p q)) was)) (free_before (p, true) q at (noted_before q was))
      by_note over (inr log) =
          never_both (overlaps p q) over
          (two_apart (flat_map spots js) apart (p, true) (q, false) at log (λ e. true≢false (ap (λ (s : Path × Bool). s.1) e)))

      by_sign : overlaps p q ≡ true → not (bytes_eq p q) ≡ true → (has_record_or_mark first q ≡ true) ⊎ IsIn (flat_map spots js) (q, true) → ⊥
      by_sign over other (inl was) =
          never_both (hinders first (p, true) q)
          (both_true (overlaps p q) (first.noted q || (has_record_or_mark first q && not (bytes_eq p q))) over
          (or_second (first.noted q) (has_record_or_mark first q && not (bytes_eq p q))
          (both_true (has_record_or_mark first q) (not (bytes_eq p q)) was other))) (free_before (p, true) q at (signed_before q was))
      by_sign over other (inr out) =
          never_both (overlaps p q) over (two_apart (flat_map spots js) apart (p, true) (q, true) at out (not_another p q true other))

      hindered : overlaps p q ≡ true → (second.noted q ≡ true) ⊎ ((has_record_or_mark second q && not (bytes_eq p q)) ≡ true) → ⊥
      hindered over (inl note) = by_note over (own.notes q note)
      hindered over (inr sign) =
          by_sign over (and_second (has_record_or_mark second q) (not (bytes_eq p q)) sign)
          (own.signs q (and_first (has_record_or_mark second q) (not (bytes_eq p q)) sign))
  free_now (p, false) q at =
      false_unless (hinders second (p, false) q)
      (λ h. hindered (and_first (overlaps p q) (has_record_or_mark second q || (second.noted q && not (bytes_eq p q))) h)
      (or_cases (has_record_or_mark second q) (second.noted q && not (bytes_eq p q))
      (and_second (overlaps p q) (has_record_or_mark second q || (second.noted q && not (bytes_eq p q))) h)))
    where
      by_sign : overlaps p q ≡ true → (has_record_or_mark first q ≡ true) ⊎ IsIn (flat_map spots js) (q, true) → ⊥
      by_sign over (inl was) =
          never_both (hinders first (p, false) q)
          (both_true (overlaps p q) (has_record_or_mark first q || (first.noted q && not (bytes_eq p q))) over
          (or_first (has_record_or_mark first q) (first.noted q && not (bytes_eq p q)) was)) (free_before (p, false) q at (signed_before q was))
      by_sign over (inr out) =
          never_both (overlaps p q) over
          (two_apart (flat_map spots js) apart (p, false) (q, true) at out (λ e. true≢false (sym (ap (λ (s : Path × Bool). s.1) e))))

      by_note : overlaps p q ≡ true → not (bytes_eq p q) ≡ true → (first.noted q ≡ true) ⊎ IsIn (flat_map spots js) (q, false) → ⊥
      by_note over other (inl was) =
          never_both (hinders first (p, false) q)
          (both_true (overlaps p q) (has_record_or_mark first q || (first.noted q && not (bytes_eq p q))) over
          (or_second (has_record_or_mark first q) (first.noted q && not (bytes_eq p q))
          (both_true (first.noted q) (not (bytes_eq p q)) was other))) (free_before (p, false) q at (noted_before q was))
      by_note over other (inr log) =
          never_both (overlaps p q) over (two_apart (flat_map spots js) apart (p, false) (q, false) at log (not_another p q false other))

      hindered : overlaps p q ≡ true → (has_record_or_mark second q ≡ true) ⊎ ((second.noted q && not (bytes_eq p q)) ≡ true) → ⊥
      hindered over (inl sign) = by_sign over (own.signs q sign)
      hindered over (inr note) =
          by_note over (and_second (second.noted q) (not (bytes_eq p q)) note)
          (own.notes q (and_first (second.noted q) (not (bytes_eq p q)) note))

pub derivation_goes_on : DerivationGoesOn
derivation_goes_on flow first second lists targets js complete complete' same own is =
    same_derivation flow first second lists targets js complete complete' same is (free_now flow first second lists targets js complete is own)
