-- Members whose names rise: each name once, and found by halves.
use Rattle.std.proofs.Common.{◌≡◌, inl, inr, ℕ, zero, suc, ◌+◌, ◌<◌, ◌≤◌, Bool, true, false, ◌&&◌, ◌||◌, List, [], ◌∷◌, map, length, get_or, Ok, Err, refl, sym, ap, subst, ◌∙◌, arith, add-one}
use Rattle.std.specs.Prelude.{bytes_eq}
use Rattle.std.specs.List.{AllByRecursion}
use Rattle.std.specs.List.Sorted.{IsBinarySearchResult, IsSortedBy}
use Rattle.std.specs.Cmp.Lexicographic.{slice_cmp}
use Rattle.std.specs.Ordering.{nat_cmp, is_lt, is_eq, ordering_reverse}
use Rattle.std.specs.declared.cmp.Ordering.{Ordering}
use Rattle.std.specs.declared.cmp.Ordering.TheVariants.{Less, Equal, Greater}
use Rattle.std.proofs.lemmas.Cmp.{nat_list_cmp_total, tied_itself}
use Rattle.std.proofs.lemmas.Map.Text.{is_eq-slice_cmp}
use Rattle.std.proofs.lemmas.List.Sorted.{searchable_from_sorted}
use Rattle.std.proofs.lemmas.Bool.{cases_lt}
use Rattle.smk_base.proofs.Places.{and_first, and_second, same_place, place_itself}
use Rattle.smk_base.proofs.Under.{never_both, false_unless, or_cases, or_first}
use Rattle.smk_world.specs.Trees.{Path, among}
use Rattle.smk_record.specs.declared.record.Member.{Member}
use Rattle.smk_record.specs.Records.{are_rising, is_less, is_member_folder}

abbrev pub Above : Path → List Path → Type 0
Above k ps = AllByRecursion (λ y. slice_cmp nat_cmp k y ≡ Less) ps

abbrev pub names_of : List Member → List Path
names_of ms = map (λ (m : Member). m.name) ms

pub less_of : (o : Ordering) → is_less o ≡ true → o ≡ Less
less_of Less h = refl
less_of Equal h = absurd cc
less_of Greater h = absurd cc

pub less_itself : (p : Path) → slice_cmp nat_cmp p p ≡ Less → ⊥
less_itself p h = let e : slice_cmp nat_cmp p p ≡ Equal = tied_itself nat_list_cmp_total p in cc

pub raised : (p q : Path) (ps : List Path) → slice_cmp nat_cmp p q ≡ Less → Above q ps → Above p ps
raised p q [] h all = tt
raised p q (r ∷ ps) h all = (nat_list_cmp_total.trans p q r h all.0, raised p q ps h all.1)

pub rising_rest : (p : Path) (ps : List Path) → are_rising (p ∷ ps) ≡ true → are_rising ps ≡ true
rising_rest p [] h = refl
rising_rest p (q ∷ ps) h = and_second (is_less (slice_cmp nat_cmp p q)) (are_rising (q ∷ ps)) h

pub rising_first : (p : Path) (ps : List Path) → are_rising (p ∷ ps) ≡ true → Above p ps
rising_first p [] h = tt
rising_first p (q ∷ ps) h =
    let less = less_of (slice_cmp nat_cmp p q) (and_first (is_less (slice_cmp nat_cmp p q)) (are_rising (q ∷ ps)) h) in
    (less, raised p q ps less (rising_first q ps (and_second (is_less (slice_cmp nat_cmp p q)) (are_rising (q ∷ ps)) h)))

pub above_among : (p q : Path) (ps : List Path) → Above p ps → among ps q ≡ true → slice_cmp nat_cmp p q ≡ Less
above_among p q [] all h = absurd (never_both false h refl)
above_among p q (r ∷ ps) all h =
    elim (or_cases (bytes_eq q r) (among ps q) h) [
      | inl same ↦ subst (λ x. slice_cmp nat_cmp p x ≡ Less) (sym (same_place q r same)) all.0
      | inr rest ↦ above_among p q ps all.1 rest
    ]

pub among_first : (p : Path) (ps : List Path) → among (p ∷ ps) p ≡ true
among_first p ps = or_first (bytes_eq p p) (among ps p) (place_itself p)

pub same_first : (p q : Path) (ps qs : List Path) → Above p ps → Above q qs → among (q ∷ qs) p ≡ true → among (p ∷ ps) q ≡ true → p ≡ q
same_first p q ps qs a b h k =
    elim (or_cases (bytes_eq p q) (among qs p) h) [
      | inl same ↦ same_place p q same
      | inr later ↦ elim (or_cases (bytes_eq q p) (among ps q) k) [
        | inl same ↦ sym (same_place q p same)
        | inr more ↦ absurd (less_itself p (nat_list_cmp_total.trans p q p (above_among p q ps a more) (above_among q p qs b later)))
      ]
    ]

pub or_apart : (a b c : Bool) → (a ≡ true → b ≡ false) → (a ≡ true → c ≡ false) → (a || b) ≡ (a || c) → b ≡ c
or_apart true b c f g e = f refl ∙ sym (g refl)
or_apart false b c f g e = e

above_at : (p : Path) (ms : List Member) (i : ℕ) (d : Member) → Above p (names_of ms) → i < length ms → slice_cmp nat_cmp p (get_or ms i d).name ≡ Less
above_at p [] i d all lt = absurd (omega arith)
above_at p (m ∷ ms) zero d all lt = all.0
above_at p (m ∷ ms) (suc i) d all lt = above_at p ms i d all.1 (omega arith)

and_none : (a b : Bool) → b ≡ false → (a && b) ≡ false
and_none true b e = e
and_none false b e = refl

and_whole : (a b : Bool) → b ≡ true → (a && b) ≡ a
and_whole true b e = e
and_whole false b e = refl

or_rest : (a b : Bool) → a ≡ false → (a || b) ≡ b
or_rest a b e = ap (λ c. c || b) e

or_front : (a b : Bool) → b ≡ false → (a || b) ≡ a
or_front true b e = refl
or_front false b e = e

-- no member has the name
abbrev HasNone : Path → List Member → Type 0
HasNone p ms = (k : ℕ) (d : Member) → k < length ms → (get_or ms k d).name ≡ p → ⊥

none_there : (p : Path) (ms : List Member) → HasNone p ms → is_member_folder ms p ≡ false
none_there p [] none = refl
none_there p (m ∷ ms) none =
    let here : bytes_eq m.name p ≡ false = false_unless (bytes_eq m.name p) (λ same. none 0 m (omega arith) (same_place m.name p same)) in
    or_rest (m.folder && bytes_eq m.name p) (is_member_folder ms p) (and_none m.folder (bytes_eq m.name p) here)
    ∙ none_there p ms (λ k d lt e. none (suc k) d (omega arith) e)

above_has_none : (p : Path) (ms : List Member) → Above p (names_of ms) → HasNone p ms
above_has_none p ms all k d lt e = less_itself p (subst (λ q. slice_cmp nat_cmp p q ≡ Less) e (above_at p ms k d all lt))

pub found_there : (p : Path) (ms : List Member) (i : ℕ) (d : Member) → are_rising (names_of ms) ≡ true → i < length ms → (get_or ms i d).name ≡ p → (get_or ms i d).folder ≡ is_member_folder ms p
found_there p [] i d h lt e = absurd (omega arith)
found_there p (m ∷ ms) zero d h lt e =
    let above : Above p (names_of ms) = subst (λ q. Above q (names_of ms)) e (rising_first m.name (names_of ms) h) in
    let here : bytes_eq m.name p ≡ true = ap (λ q. bytes_eq q p) e ∙ place_itself p in
    sym (or_front (m.folder && bytes_eq m.name p) (is_member_folder ms p) (none_there p ms (above_has_none p ms above)) ∙ and_whole m.folder (bytes_eq m.name p) here)
found_there p (m ∷ ms) (suc i) d h lt e =
    let below : slice_cmp nat_cmp m.name p ≡ Less = subst (λ q. slice_cmp nat_cmp m.name q ≡ Less) e (above_at m.name ms i d (rising_first m.name (names_of ms) h) (omega arith)) in
    let here : bytes_eq m.name p ≡ false = false_unless (bytes_eq m.name p) (λ same. less_itself p (subst (λ q. slice_cmp nat_cmp q p ≡ Less) (same_place m.name p same) below)) in
    found_there p ms i d (rising_rest m.name (names_of ms) h) (omega arith) e
    ∙ sym (or_rest (m.folder && bytes_eq m.name p) (is_member_folder ms p) (and_none m.folder (bytes_eq m.name p) here))

-- ---- a search by halves

rising_at : (ms : List Member) (k : ℕ) (d : Member) → are_rising (names_of ms) ≡ true → k + 1 < length ms → slice_cmp nat_cmp (get_or ms k d).name (get_or ms (k + 1) d).name ≡ Less
rising_at [] k d h lt = absurd (omega arith)
rising_at (m ∷ ms) zero d h lt = rw add-one (above_at m.name ms 0 d (rising_first m.name (names_of ms) h) (omega arith))
rising_at (m ∷ ms) (suc k) d h lt = rw add-one (subst (λ j. slice_cmp nat_cmp (get_or ms k d).name (get_or ms j d).name ≡ Less) (add-one k) (rising_at ms k d (rising_rest m.name (names_of ms) h) (omega arith)))

falls_back : (p q : Path) → slice_cmp nat_cmp p q ≡ Less → is_lt (slice_cmp nat_cmp q p) ≡ false
falls_back p q h = ap is_lt (nat_list_cmp_total.antisymm q p ∙ ap ordering_reverse h)

sorted : (ms : List Member) → are_rising (names_of ms) ≡ true → IsSortedBy (λ (a b : Member). is_lt (slice_cmp nat_cmp a.name b.name)) ms
sorted ms h = λ k d low lt. falls_back (get_or ms k d).name (get_or ms (k + 1) d).name (rising_at ms k d h lt)

same_name : (p q : Path) → slice_cmp nat_cmp p q ≡ Equal → p ≡ q
same_name p q h = same_place p q (sym (is_eq-slice_cmp p q) ∙ ap is_eq h)

pub searched_ok : (p : Path) (ms : List Member) (i : ℕ) (d : Member) → are_rising (names_of ms) ≡ true → i < length ms → IsBinarySearchResult {X = Member} (λ m. slice_cmp nat_cmp m.name p) ms (Ok i) → (get_or ms i d).folder ≡ is_member_folder ms p
searched_ok p ms i d h lt r = found_there p ms i d h lt (same_name (get_or ms i d).name p (r d))

pub searched_err : (p : Path) (ms : List Member) (i : ℕ) → are_rising (names_of ms) ≡ true → IsBinarySearchResult {X = Member} (λ m. slice_cmp nat_cmp m.name p) ms (Err i) → false ≡ is_member_folder ms p
searched_err p ms i h r =
    let point = r (searchable_from_sorted nat_list_cmp_total (λ (m : Member). m.name) ms p (sorted ms h)) in
    let tied : (q : Path) → q ≡ p → slice_cmp nat_cmp q p ≡ Equal = λ q e. ap (λ x. slice_cmp nat_cmp x p) e ∙ tied_itself nat_list_cmp_total p in
    let low : (k : ℕ) (d : Member) → k < i → (get_or ms k d).name ≡ p → ⊥ = λ k d lt e. (let a : slice_cmp nat_cmp (get_or ms k d).name p ≡ Less = point.0 k d (omega arith) lt in let b = tied (get_or ms k d).name e in cc) in
    let high : (k : ℕ) (d : Member) → i ≤ k → k < length ms → (get_or ms k d).name ≡ p → ⊥ = λ k d le lt e. (let a : slice_cmp nat_cmp (get_or ms k d).name p ≡ Greater = point.1 k d le lt in let b = tied (get_or ms k d).name e in cc) in
    sym (none_there p ms (λ k d lt e. elim (cases_lt k i) [ inl l ↦ low k d l e | inr g ↦ high k d g lt e ]))
