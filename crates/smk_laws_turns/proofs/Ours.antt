-- The run's own goes on where something else stands at outputs and logs alone.
use Rattle.std.proofs.Common.{◌≡◌, ◌⊎◌, inl, inr, Bool, true, false, ◌&&◌, ◌||◌, not, List, [], ◌∷◌, ◌++◌, flat_map, Option, Some, None, is_some, refl, sym, ap, subst, ◌∙◌}
use Rattle.std.specs.Prelude.{if◌then◌else◌, option_map}
use Rattle.smk_base.specs.Path.{is_at_or_under, is_under, overlaps}
use Rattle.smk_base.proofs.Under.{at_itself, at_or_under_cases, at_when_under, false_unless, never_both, or_cases, overlaps_at}
use Rattle.smk_world.specs.Trees.{IsIn, Path, among, is_path_text}
use Rattle.smk_world.specs.World.{folders_above, is_within}
use Rattle.smk_flow.specs.declared.job.Job.{Job}
use Rattle.smk_flow.specs.Flows.{Flow}
use Rattle.smk_store.specs.declared.store.Kept.{Kept}
use Rattle.smk_store.specs.Images.{Content, Image, file_at, is_covered, is_known, is_source, source_at, stands}
use Rattle.smk_store.specs.Soundness.{SameSources, told}
use Rattle.smk_chain.specs.Derive.{Derived, Listings, derivation, has_record_or_mark, spots}
use Rattle.smk_safe.proofs.Same.{source_same}
use Rattle.smk_laws_plan.specs.Current.{IsComplete}
use Rattle.smk_laws_plan.proofs.CurrentLists.{in_either, in_left, in_right}
use Rattle.smk_laws_plan.proofs.CurrentPaths.{among_in, folders_under}
use Rattle.smk_laws_plan.proofs.PlanStates.{any_same}
use Rattle.smk_laws_protocol.proofs.Above.{above_in}
use Rattle.smk_laws_protocol.proofs.Basics.{any_by}
use Rattle.smk_laws_moments.proofs.Spots.{flipped}
use Rattle.smk_laws_plan.specs.Signs.{HasOwnSigns}
use Rattle.smk_laws_turns.proofs.Carrying.{by_test}
use Rattle.smk_laws_turns.specs.Differing.{ChangesAt, IsKnownOrGone, OursGoOn}
use Rattle.smk_laws_turns.proofs.BegunCalls.{within_of}
use Rattle.smk_laws_turns.proofs.JobPaths.{spot_no_source}

-- ## Paths

-- one of the places that the path is at or under
pub within_some : (ps : List Path) (q : Path) → is_within q ps ≡ true → (p : Path) × IsIn ps p × (is_at_or_under q p ≡ true)
within_some [] q h = absurd (never_both false h refl)
within_some (p ∷ ps) q h = go (or_cases (is_at_or_under q p) (is_within q ps) h) (within_some ps q)
  where
    go :
        (is_at_or_under q p ≡ true) ⊎ (is_within q ps ≡ true) →
        (is_within q ps ≡ true → (r : Path) × IsIn ps r × (is_at_or_under q r ≡ true)) → (r : Path) × IsIn (p ∷ ps) r × (is_at_or_under q r ≡ true)
    go (inl at) later = (p, inl refl, at)
    go (inr more) later = let r = later more in (r.0, inr r.1, r.2)

-- the path, or a folder above it
pub at_above : (q f : Path) → IsIn (q ∷ folders_above q) f → is_at_or_under q f ≡ true
at_above q f (inl e) = subst (λ x. is_at_or_under q x ≡ true) (sym e) (at_itself q)
at_above q f (inr i) = at_when_under q f (folders_under q f i)

pub above_at : (q f : Path) → is_at_or_under q f ≡ true → IsIn (q ∷ folders_above q) f
above_at q f at = go (at_or_under_cases q f at)
  where
    go : (q ≡ f) ⊎ (is_under q f ≡ true) → IsIn (q ∷ folders_above q) f
    go (inl e) = inl (sym e)
    go (inr u) = inr (above_in q f u)

-- ## Sources

-- what is a source, by what stands there
abbrev source_by : Bool → Option Content → Bool → Option Content
source_by text file covered = if text && (is_some file && not covered) then file else None

no_source_covered : (text : Bool) (file : Option Content) (covered : Bool) → covered ≡ true → source_by text file covered ≡ None
no_source_covered true None covered h = refl
no_source_covered true (Some f) true h = refl
no_source_covered true (Some f) false h = absurd (never_both false h refl)
no_source_covered false file covered h = refl

no_source_without : (text : Bool) (file : Option Content) (covered : Bool) → file ≡ None → source_by text file covered ≡ None
no_source_without true None covered h = refl
no_source_without true (Some f) covered h = absurd (never_both true refl (ap is_some h))
no_source_without false file covered h = refl

unless_source : (b : Bool) (file : Option Content) → b ≡ false → (if b then file else None) ≡ None
unless_source b file h = ap (λ c. if c then file else None) h

pub covered_by : (image : Image) (q p : Path) → is_at_or_under q p ≡ true → is_known image p ≡ true → is_covered image q ≡ true
covered_by image q p at known = any_by (is_known image) (q ∷ folders_above q) p (above_at q p at) known

-- no source is at or under what is known or gone
none_there : (image : Image) (q p : Path) → is_at_or_under q p ≡ true → IsKnownOrGone image p → source_at image q ≡ None
none_there image q p at (inl known) = no_source_covered (is_path_text q) (file_at image q) (is_covered image q) (covered_by image q p at known)
none_there image q p at (inr gone) = no_source_without (is_path_text q) (file_at image q) (is_covered image q) (gone q at)

either_or : (a b c d : Bool) → a ≡ b → c ≡ d → (a || c) ≡ (b || d)
either_or a b c d h k = λ i. h i || k i

module _
    (flow : Flow) (first image later : Image) (lists : Listings) (targets : List Path) (jobs : List Job) (outs logs : List Path) (complete : IsComplete first)
    (is : derivation flow first lists targets ≡ Derived jobs) (its_outs : (p : Path) → IsIn outs p → IsIn (flat_map spots jobs) (p, true))
    (its_logs : (p : Path) → IsIn logs p → IsIn (flat_map spots jobs) (p, false)) (changes : ChangesAt image later outs logs)
    (same : SameSources first image) where
  -- no source was there at or under an output or a log
  not_before : (s : Path × Bool) (q : Path) → IsIn (flat_map spots jobs) s → is_at_or_under q s.0 ≡ true → is_source image q ≡ false
  not_before s q i at =
      false_unless (is_source image q)
      (λ t. never_both (overlaps q s.0) (overlaps_at q s.0 at)
      (flipped s.0 q (spot_no_source flow first lists targets jobs complete is s q i (sym (source_same first image same q) ∙ t))))

  spot_in : (p : Path) → IsIn (outs ++ logs) p → (b : Bool) × IsIn (flat_map spots jobs) (p, b) × IsKnownOrGone later p
  spot_in p i = go (in_either p outs logs i)
    where
      go : IsIn outs p ⊎ IsIn logs p → (b : Bool) × IsIn (flat_map spots jobs) (p, b) × IsKnownOrGone later p
      go (inl o) = (true, its_outs p o, changes.outputs p o)
      go (inr l) = (false, its_logs p l, changes.logged p l)

  same_within : (q : Path) → is_within q (outs ++ logs) ≡ true → source_at later q ≡ source_at image q
  same_within q within =
      let r = within_some (outs ++ logs) q within in
      let s = spot_in r.0 r.1 in
      none_there later q r.0 r.2 s.2 ∙ sym (unless_source (is_source image q) (file_at image q) (not_before (r.0, s.0) q s.1 r.2))

  known_same : (q f : Path) → is_within q (outs ++ logs) ≡ false → IsIn (q ∷ folders_above q) f → is_known later f ≡ is_known image f
  known_same q f within i =
      let never : IsIn (outs ++ logs) f → ⊥ = λ k. never_both (is_at_or_under q f) (at_above q f i) (within_of (outs ++ logs) f q k within) in
      let no_out : among outs f ≡ false = false_unless (among outs f) (λ t. never (in_left f outs logs (among_in outs f t))) in
      let no_log : among logs f ≡ false = false_unless (among logs f) (λ t. never (in_right f outs logs (among_in logs f t))) in
      either_or (stands (later.kept f)) (stands (image.kept f)) (later.marked f || later.noted f) (image.marked f || image.noted f)
      (ap (λ (k : Kept). stands k) (changes.kept f no_out))
      (either_or (later.marked f) (image.marked f) (later.noted f) (image.noted f) (changes.marks f no_out) (changes.notes f no_log))

  same_aside : (q : Path) → is_within q (outs ++ logs) ≡ false → source_at later q ≡ source_at image q
  same_aside q within =
      let covered : is_covered later q ≡ is_covered image q =
      any_same (is_known later) (is_known image) (q ∷ folders_above q) (λ f i. known_same q f within i)
      in
      let file : file_at later q ≡ file_at image q = changes.files q within in
      λ i. source_by (is_path_text q) (file i) (covered i)

  same_now : (q : Path) → source_at later q ≡ source_at image q
  same_now q = by_test (is_within q (outs ++ logs)) (same_within q) (same_aside q)

  sources_now : SameSources first later
  sources_now q = ap (option_map told) (same_now q) ∙ same q

  module _ (own : HasOwnSigns first image jobs) where
    note_now : (q : Path) → later.noted q ≡ true → (first.noted q ≡ true) ⊎ IsIn (flat_map spots jobs) (q, false)
    note_now q h =
        by_test (among logs q) (λ t. inr (its_logs q (among_in logs q t))) (λ f. own.notes q (sym (changes.notes q f) ∙ h))

    sign_now : (q : Path) → has_record_or_mark later q ≡ true → (has_record_or_mark first q ≡ true) ⊎ IsIn (flat_map spots jobs) (q, true)
    sign_now q h =
        by_test (among outs q) (λ t. inr (its_outs q (among_in outs q t)))
        (λ f. own.signs q
        (either_or (stands (image.kept q)) (stands (later.kept q)) (image.marked q) (later.marked q) (sym (ap (λ (k : Kept). stands k) (changes.kept q f)))
        (sym (changes.marks q f)) ∙ h))

  module _ (gone : HasOwnSigns image first jobs) where
    note_then : (q : Path) → first.noted q ≡ true → (later.noted q ≡ true) ⊎ IsIn (flat_map spots jobs) (q, false)
    note_then q h = by_test (among logs q) (λ t. inr (its_logs q (among_in logs q t))) (λ f. go f (gone.notes q h))
      where
        go : among logs q ≡ false → (image.noted q ≡ true) ⊎ IsIn (flat_map spots jobs) (q, false) → (later.noted q ≡ true) ⊎ IsIn (flat_map spots jobs) (q, false)
        go f (inl n) = inl (changes.notes q f ∙ n)
        go f (inr i) = inr i

    sign_then : (q : Path) → has_record_or_mark first q ≡ true → (has_record_or_mark later q ≡ true) ⊎ IsIn (flat_map spots jobs) (q, true)
    sign_then q h = by_test (among outs q) (λ t. inr (its_outs q (among_in outs q t))) (λ f. go f (gone.signs q h))
      where
        go :
            among outs q ≡ false → (has_record_or_mark image q ≡ true) ⊎ IsIn (flat_map spots jobs) (q, true) →
            (has_record_or_mark later q ≡ true) ⊎ IsIn (flat_map spots jobs) (q, true)
        go f (inl s) =
            inl (either_or (stands (later.kept q)) (stands (image.kept q)) (later.marked q) (image.marked q) (ap (λ (k : Kept). stands k) (changes.kept q f))
            (changes.marks q f) ∙ s)
        go f (inr i) = inr i

pub ours_go_on : OursGoOn
ours_go_on flow first image later lists targets jobs outs logs complete is its_outs its_logs changes same own gone = (
  sources_now flow first image later lists targets jobs outs logs complete is its_outs its_logs changes same,
  record {
    notes = note_now flow first image later lists targets jobs outs logs complete is its_outs its_logs changes same own;
    signs = sign_now flow first image later lists targets jobs outs logs complete is its_outs its_logs changes same own;
  },
  record {
    notes = note_then flow first image later lists targets jobs outs logs complete is its_outs its_logs changes same gone;
    signs = sign_then flow first image later lists targets jobs outs logs complete is its_outs its_logs changes same gone;
  },
)
