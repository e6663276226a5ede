-- The first of what passes a test.
use Rattle.std.proofs.Common.{◌≡◌, Bool, true, false, cond, List, [], ◌∷◌, ◌++◌, map, Some, None, refl, sym, ap, ◌∙◌, bytes_eq}
use Rattle.std.specs.Prelude.{option_map}
use Rattle.std.specs.List.{filter}
use Rattle.smk_base.specs.Path.{overlaps}
use Rattle.smk_base.proofs.Places.{place_itself}
use Rattle.smk_base.proofs.Under.{never_both, false_unless, or_first, or_second}
use Rattle.smk_world.specs.Trees.{Path, among, first}

-- a test that fails at each passes nothing
pub none_pass : (test : Path → Bool) (xs : List Path) → ((q : Path) → among xs q ≡ true → test q ≡ false) → filter test xs ≡ []
none_pass test [] each = refl
none_pass test (x ∷ xs) each =
    ap (λ v. cond v (x ∷ filter test xs) (filter test xs)) (each x (or_first (bytes_eq x x) (among xs x) (place_itself x)))
    ∙ none_pass test xs (λ q h. each q (or_second (bytes_eq q x) (among xs q) h))

pub none_first : (test : Path → Bool) (xs : List Path) → ((q : Path) → among xs q ≡ true → test q ≡ false) → None ≡ first (filter test xs)
none_first test xs each = sym (ap first (none_pass test xs each))

-- what overlaps isn't among them
pub none_overlaps : (p : Path) (xs : List Path) (P : Path → Bool) → ((q : Path) → P q ≡ among xs q) → ((q : Path) → overlaps p q ≡ true → P q ≡ false) → None ≡ first (filter (overlaps p) xs)
none_overlaps p xs P same none = none_first (overlaps p) xs (λ q h. false_unless (overlaps p q) (λ over. never_both (among xs q) h (sym (same q) ∙ none q over)))

pub first_mapped : {A B : Type 0} (f : A → B) (x : A) (xs : List A) (ys : List B) → Some x ≡ first xs → Some (f x) ≡ first (map f xs ++ ys)
first_mapped f x [] ys e = absurd cc
first_mapped f x (y ∷ xs) ys e = ap (option_map f) e

pub none_mapped : {A B : Type 0} (f : A → B) (xs : List A) (ys : List B) → None ≡ first xs → map f xs ++ ys ≡ ys
none_mapped f [] ys e = refl
none_mapped f (x ∷ xs) ys e = absurd cc
