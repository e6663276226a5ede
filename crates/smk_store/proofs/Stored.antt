-- Looking a path up among those that rise, by halves.
use Rattle.std.proofs.Common.{◌≡◌, inl, inr, ℕ, zero, suc, ◌+◌, ◌<◌, ◌≤◌, Bool, true, false, cond, List, [], ◌∷◌, map, length, get_or, Option, Some, None, Ok, Err, refl, sym, ap, subst, ◌∙◌, arith, add-one}
use Rattle.std.specs.Prelude.{bytes_eq}
use Rattle.std.specs.List.Sorted.{IsBinarySearchResult, IsSortedBy}
use Rattle.std.specs.Cmp.Lexicographic.{slice_cmp}
use Rattle.std.specs.Ordering.{nat_cmp, is_lt, is_eq, ordering_reverse}
use Rattle.std.specs.declared.cmp.Ordering.TheVariants.{Less, Equal, Greater}
use Rattle.std.proofs.lemmas.Cmp.{nat_list_cmp_total, tied_itself}
use Rattle.std.proofs.lemmas.Map.Text.{is_eq-slice_cmp}
use Rattle.std.proofs.lemmas.List.Sorted.{searchable_from_sorted}
use Rattle.std.proofs.lemmas.Bool.{cases_lt}
use Rattle.smk_base.proofs.Places.{same_place, place_itself}
use Rattle.smk_base.proofs.Under.{false_unless}
use Rattle.smk_world.specs.Trees.{Path}
use Rattle.smk_record.specs.Records.{are_rising}
use Rattle.smk_record.proofs.Rising.{Above, less_itself, rising_rest, rising_first}
use Rattle.smk_store.specs.declared.store.Entry.{Entry}
use Rattle.smk_store.specs.Stores.{Known, known, entry_of}

above_at : (p : Path) (ps : List Path) (i : ℕ) (d : Path) → Above p ps → i < length ps → slice_cmp nat_cmp p (get_or ps i d) ≡ Less
above_at p [] i d all lt = absurd (omega arith)
above_at p (q ∷ ps) zero d all lt = all.0
above_at p (q ∷ ps) (suc i) d all lt = above_at p ps i d all.1 (omega arith)

pub names_back : (ps : List Path) (es : List Entry) → length es ≡ length ps → ps ≡ map (λ (k : Known). k.path) (known ps es)
names_back [] es e = refl
names_back (p ∷ ps) [] e = absurd (omega arith)
names_back (p ∷ ps) (f ∷ es) e = ap (λ t. p ∷ t) (names_back ps es (omega arith))

pub entries_back : (ps : List Path) (es : List Entry) → length es ≡ length ps → es ≡ map (λ (k : Known). k.entry) (known ps es)
entries_back [] [] e = refl
entries_back [] (f ∷ es) e = absurd (omega arith)
entries_back (p ∷ ps) [] e = absurd (omega arith)
entries_back (p ∷ ps) (f ∷ es) e = ap (λ t. f ∷ t) (entries_back ps es (omega arith))

abbrev entry_if : Bool → Entry → Option Entry → Option Entry
entry_if b e more = cond b (Some e) more

found_there : (p : Path) (ps : List Path) (es : List Entry) (i : ℕ) (d : Path) (e : Entry) → are_rising ps ≡ true → length es ≡ length ps → i < length ps → get_or ps i d ≡ p → Some (get_or es i e) ≡ entry_of (known ps es) p
found_there p [] es i d e h len lt is = absurd (omega arith)
found_there p (q ∷ ps) [] i d e h len lt is = absurd (omega arith)
found_there p (q ∷ ps) (f ∷ es) zero d e h len lt is =
    sym (ap (λ b. entry_if b f (entry_of (known ps es) p)) (ap (λ x. bytes_eq x p) is ∙ place_itself p))
found_there p (q ∷ ps) (f ∷ es) (suc i) d e h len lt is =
    let below : slice_cmp nat_cmp q p ≡ Less = subst (λ x. slice_cmp nat_cmp q x ≡ Less) is (above_at q ps i d (rising_first q ps h) (omega arith)) in
    let here : bytes_eq q p ≡ false = false_unless (bytes_eq q p) (λ same. less_itself p (subst (λ x. slice_cmp nat_cmp x p ≡ Less) (same_place q p same) below)) in
    found_there p ps es i d e (rising_rest q ps h) (omega arith) (omega arith) is ∙ sym (ap (λ b. entry_if b f (entry_of (known ps es) p)) here)

none_there : (p : Path) (ps : List Path) (es : List Entry) → ((k : ℕ) (d : Path) → k < length ps → get_or ps k d ≡ p → ⊥) → None ≡ entry_of (known ps es) p
none_there p [] es none = refl
none_there p (q ∷ ps) [] none = refl
none_there p (q ∷ ps) (f ∷ es) none =
    let here : bytes_eq q p ≡ false = false_unless (bytes_eq q p) (λ same. none 0 q (omega arith) (same_place q p same)) in
    none_there p ps es (λ k d lt e. none (suc k) d (omega arith) e) ∙ sym (ap (λ b. entry_if b f (entry_of (known ps es) p)) here)

rising_at : (ps : List Path) (k : ℕ) (d : Path) → are_rising ps ≡ true → k + 1 < length ps → slice_cmp nat_cmp (get_or ps k d) (get_or ps (k + 1) d) ≡ Less
rising_at [] k d h lt = absurd (omega arith)
rising_at (q ∷ ps) zero d h lt = above_at q ps 0 d (rising_first q ps h) (omega arith)
rising_at (q ∷ ps) (suc k) d h lt = rw add-one (subst (λ j. slice_cmp nat_cmp (get_or ps k d) (get_or ps j d) ≡ Less) (add-one k) (rising_at ps k d (rising_rest q ps h) (omega arith)))

falls_back : (p q : Path) → slice_cmp nat_cmp p q ≡ Less → is_lt (slice_cmp nat_cmp q p) ≡ false
falls_back p q h = ap is_lt (nat_list_cmp_total.antisymm q p ∙ ap ordering_reverse h)

abbrev itself : Path → Path
itself p = p

sorted : (ps : List Path) → are_rising ps ≡ true → IsSortedBy (λ (a b : Path). is_lt (slice_cmp nat_cmp (itself a) (itself b))) ps
sorted ps h = λ k d low lt. falls_back (get_or ps k d) (get_or ps (k + 1) d) (rising_at ps k d h lt)

same_name : (p q : Path) → slice_cmp nat_cmp p q ≡ Equal → p ≡ q
same_name p q h = same_place p q (sym (is_eq-slice_cmp p q) ∙ ap is_eq h)

pub searched_ok : (p : Path) (ps : List Path) (es : List Entry) (i : ℕ) (e : Entry) → are_rising ps ≡ true → length es ≡ length ps → i < length ps → IsBinarySearchResult {X = Path} (λ q. slice_cmp nat_cmp q p) ps (Ok i) → Some (get_or es i e) ≡ entry_of (known ps es) p
searched_ok p ps es i e h len lt r = found_there p ps es i p e h len lt (same_name (get_or ps i p) p (r p))

pub searched_err : (p : Path) (ps : List Path) (es : List Entry) (i : ℕ) → are_rising ps ≡ true → IsBinarySearchResult {X = Path} (λ q. slice_cmp nat_cmp q p) ps (Err i) → None ≡ entry_of (known ps es) p
searched_err p ps es i h r =
    let point = r (searchable_from_sorted nat_list_cmp_total itself ps p (sorted ps h)) in
    let tied : (q : Path) → q ≡ p → slice_cmp nat_cmp q p ≡ Equal = λ q e. ap (λ x. slice_cmp nat_cmp x p) e ∙ tied_itself nat_list_cmp_total p in
    let low : (k : ℕ) (d : Path) → k < i → get_or ps k d ≡ p → ⊥ = λ k d lt e. (let a : slice_cmp nat_cmp (get_or ps k d) p ≡ Less = point.0 k d (omega arith) lt in let b = tied (get_or ps k d) e in cc) in
    let high : (k : ℕ) (d : Path) → i ≤ k → k < length ps → get_or ps k d ≡ p → ⊥ = λ k d le lt e. (let a : slice_cmp nat_cmp (get_or ps k d) p ≡ Greater = point.1 k d le lt in let b = tied (get_or ps k d) e in cc) in
    none_there p ps es (λ k d lt e. elim (cases_lt k i) [ inl l ↦ low k d l e | inr g ↦ high k d g lt e ])
