-- What is gone over one after the other: the greatest number, and the places of marks and notes.
use Rattle.std.proofs.Common.{◌≡◌, ℕ, zero, suc, ◌+◌, ◌<◌, ◌≤◌, max, List, [], ◌∷◌, ◌++◌, map, length, take, get_or, refl, sym, ap, ◌∙◌, arith}
use Rattle.std.specs.List.{fold, flat_map}
use Rattle.std.proofs.lemmas.List.{take_more, append-nil, take_all}
use Rattle.std.proofs.lemmas.List.Concat.{flat_map-append, flat_map-cons}
use Rattle.std.proofs.lemmas.List.Sums.{fold-append}
use Rattle.smk_world.specs.Trees.{Path}
use Rattle.smk_store.specs.declared.store.Entry.{Entry}
use Rattle.smk_store.specs.Stores.{Known, known}
use Rattle.smk_store.specs.Steadying.{signs_of, all_signs}

-- the lists of the elements up to one, and its own
listed_at : {X Y : Type 0} (f : X → List Y) (xs : List X) (i : ℕ) (d : X) → i < length xs → flat_map f (take (i + 1) xs) ≡ flat_map f (take i xs) ++ f (get_or xs i d)
listed_at f xs i d lt =
    ap (flat_map f) (take_more xs i d lt) ∙ flat_map-append f (take i xs) (get_or xs i d ∷ [])
    ∙ ap (λ t. flat_map f (take i xs) ++ t) (flat_map-cons f (get_or xs i d) [] ∙ append-nil (f (get_or xs i d)))

pub listed_next : {X Y : Type 0} (f : X → List Y) (xs : List X) (i : ℕ) (x : X) → i < length xs → x ≡ get_or xs i x → flat_map f (take (i + 1) xs) ≡ flat_map f (take i xs) ++ f x
listed_next f xs i x lt e = listed_at f xs i x lt ∙ ap (λ y. flat_map f (take i xs) ++ f y) (sym e)

-- so is the greatest number in them
pub greatest_at : {X : Type 0} (f : X → List ℕ) (a : ℕ) (xs : List X) (i : ℕ) (d : X) (m r : ℕ) → i < length xs
    → m ≡ fold max a (flat_map f (take i xs)) → r ≡ fold max m (f (get_or xs i d)) → r ≡ fold max a (flat_map f (take (i + 1) xs))
greatest_at f a xs i d m r lt before now =
    now ∙ ap (λ n. fold max n (f (get_or xs i d))) before ∙ sym (fold-append max a (flat_map f (take i xs)) (f (get_or xs i d))) ∙ ap (fold max a) (sym (listed_at f xs i d lt))

pub greatest_next : {X : Type 0} (f : X → List ℕ) (a : ℕ) (xs : List X) (i : ℕ) (x : X) → i < length xs → x ≡ get_or xs i x
    → fold max (fold max a (flat_map f (take i xs))) (f x) ≡ fold max a (flat_map f (take (i + 1) xs))
greatest_next f a xs i x lt e = sym (fold-append max a (flat_map f (take i xs)) (f x)) ∙ ap (fold max a) (sym (listed_next f xs i x lt e))

pub listed_map : {X Y Z : Type 0} (f : Y → List Z) (g : X → Y) (xs : List X) → flat_map f (map g xs) ≡ flat_map (λ x. f (g x)) xs
listed_map f g [] = refl
listed_map f g (x ∷ xs) = flat_map-cons f (g x) (map g xs) ∙ ap (λ t. f (g x) ++ t) (listed_map f g xs) ∙ sym (flat_map-cons (λ y. f (g y)) x xs)

-- ---- paths, each with its entry

known_length : (ps : List Path) (es : List Entry) → length es ≡ length ps → length (known ps es) ≡ length ps
known_length [] es e = refl
known_length (p ∷ ps) [] e = absurd (omega arith)
known_length (p ∷ ps) (f ∷ es) e = ap suc (known_length ps es (omega arith))

known_at : (ps : List Path) (es : List Entry) (i : ℕ) (p : Path) (e : Entry) (d : Known) → length es ≡ length ps → i < length ps → p ≡ get_or ps i p → e ≡ get_or es i e
    → record { path = p; entry = e } ≡ get_or (known ps es) i d
known_at [] es i p e d len lt is has = absurd (omega arith)
known_at (q ∷ ps) [] i p e d len lt is has = absurd (omega arith)
known_at (q ∷ ps) (f ∷ es) zero p e d len lt is has = cc
known_at (q ∷ ps) (f ∷ es) (suc i) p e d len lt is has = known_at ps es i p e d (omega arith) (omega arith) is has

pub signs_next : (ps : List Path) (es : List Entry) (i : ℕ) (p : Path) (e : Entry) → length es ≡ length ps → i < length ps → p ≡ get_or ps i p → e ≡ get_or es i e
    → all_signs (take (i + 1) (known ps es)) ≡ all_signs (take i (known ps es)) ++ signs_of (record { path = p; entry = e })
signs_next ps es i p e len lt is has =
    listed_next signs_of (known ps es) i (record { path = p; entry = e }) (omega (arith, known_length ps es len, lt)) (known_at ps es i p e (record { path = p; entry = e }) len lt is has)

pub signs_done : (ps : List Path) (es : List Entry) (i : ℕ) → length es ≡ length ps → length ps ≤ i → all_signs (take i (known ps es)) ≡ all_signs (known ps es)
signs_done ps es i len le = ap all_signs (take_all i (known ps es) (omega (arith, known_length ps es len, le)))

-- a store is its paths, each with its entry
pub known_back : (ks : List Known) → known (map (λ (k : Known). k.path) ks) (map (λ (k : Known). k.entry) ks) ≡ ks
known_back [] = refl
known_back (k ∷ ks) = ap (λ t. k ∷ t) (known_back ks)
