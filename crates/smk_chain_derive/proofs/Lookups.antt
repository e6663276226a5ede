-- What lies above and under a path in a set of texts.
use Rattle.std.proofs.Common.{◌≡◌, ℕ, suc, ◌<◌, ◌≤◌, ◌+◌, inl, inr, Bool, true, false, cond, ◌||◌, ◌&&◌, not, ◌==◌, List, [], ◌∷◌, ◌++◌, length, get_or, take, refl, sym, ap, subst, ◌∙◌, arith, bytes_eq, string_bytes, String}
use Rattle.std.specs.List.{filter}
use Rattle.std.specs.Cmp.Lexicographic.{slice_cmp}
use Rattle.std.specs.Ordering.{nat_cmp, is_le}
use Rattle.std.specs.declared.alloc.Global.{Global}
use Rattle.std.proofs.lemmas.Bool.{eqb-true, cases_lt}
use Rattle.smk_base.specs.Path.{is_under, overlaps}
use Rattle.smk_base.proofs.Places.{and_first, and_second, same_place}
use Rattle.smk_base.proofs.Under.{never_both, false_unless}
use Rattle.smk_world.specs.Trees.{Path, among}
use Rattle.smk_store.specs.Walking.{texts_of}
use Rattle.smk_base.proofs.Ranges.{is_between, between_is_under}

-- ## A set of paths

pub among_last : (xs : List Path) (x q : Path) → among (xs ++ x ∷ []) q ≡ (bytes_eq q x || among xs q)
among_last [] x q = refl
among_last (y ∷ xs) x q = ap (λ (b : Bool). bytes_eq q y || b) (among_last xs x q) ∙ swap (bytes_eq q y) (bytes_eq q x) (among xs q)
  where
    swap : (a b c : Bool) → (a || (b || c)) ≡ (b || (a || c))
    swap true true c = refl
    swap true false c = refl
    swap false b c = refl

-- ## Above

-- what holds of no text before a slash holds of no folder above
pub none_above : (P : Path → Bool) (name q : Path) → ((k : ℕ) → k < length name → get_or name k 0 ≡ 47 → P (take k name) ≡ false) → is_under name q ≡ true → P q ≡ false
none_above P [] q each h = absurd (never_both false h refl)
none_above P (b ∷ text) [] each h = each 0 (omega arith) (eqb-true b 47 h)
none_above P (b ∷ text) (c ∷ folder) each h =
    subst (λ x. P (x ∷ folder) ≡ false) (eqb-true b c (and_first (b == c) (is_under text folder) h))
    (none_above (λ q. P (b ∷ q)) text folder (λ k lt e. each (suc k) (omega arith) e) (and_second (b == c) (is_under text folder) h))

pub none_over : (P : Path → Bool) (name path q : Path) (i : ℕ) → name ≡ path → length name ≤ i → ((k : ℕ) → k < i → get_or name k 0 ≡ 47 → P (take k name) ≡ false) → is_under path q ≡ true → P q ≡ false
none_over P name path q i same all each under = none_above P name q (λ k lt e. each k (omega arith) e) (subst (λ p. is_under p q ≡ true) (sym same) under)

pub one_more : (P : ℕ → Type 0) (i : ℕ) → ((k : ℕ) → k < i → P k) → P i → (k : ℕ) → k < i + 1 → P k
one_more P i each last k lt = elim (cases_lt k i) [ inl l ↦ each k l | inr g ↦ subst P (let e : i ≡ k = omega arith in e) last ]

-- ## Under

abbrev pub is_in_texts : List ℕ → List ℕ → List ℕ → Bool
is_in_texts low high q = is_le (slice_cmp nat_cmp low q) && not (is_le (slice_cmp nat_cmp high q))

abbrev pub passing : (Path → Bool) → List (String Global) → List (String Global)
passing test keys = filter (λ k. test (string_bytes k)) keys

pub none_passes : (test : Path → Bool) (q : Path) (keys : List (String Global)) → test q ≡ true → passing test keys ≡ [] → among (texts_of keys) q ≡ false
none_passes test q [] t e = refl
none_passes test q (k ∷ keys) t e = go (test (string_bytes k)) refl e (none_passes test q keys t)
  where
    go : (v : Bool) → test (string_bytes k) ≡ v → cond v (k ∷ passing test keys) (passing test keys) ≡ [] → (passing test keys ≡ [] → among (texts_of keys) q ≡ false)
        → (bytes_eq q (string_bytes k) || among (texts_of keys) q) ≡ false
    go true is some rest = absurd cc
    go false is none rest =
        ap (λ (b : Bool). b || among (texts_of keys) q) (false_unless (bytes_eq q (string_bytes k)) (λ same. never_both (test q) t (ap test (same_place q (string_bytes k) same) ∙ is)))
        ∙ rest none

pub none_under : (p low high : Path) (keys left : List (String Global)) → left ≡ [] → left ≡ passing (is_in_texts low high) keys → low ≡ p ++ 47 ∷ [] → high ≡ p ++ 48 ∷ []
    → (q : Path) → is_under q p ≡ true → among (texts_of keys) q ≡ false
none_under p low high keys left none is is_low is_high q under =
    none_passes (is_between p) q keys (between_is_under p q ∙ under)
    (sym (is ∙ ap (λ l. passing (is_in_texts l high) keys) is_low ∙ ap (λ h. passing (is_in_texts (p ++ 47 ∷ []) h) keys) is_high) ∙ none)

-- ## Around

pub none_around : (P : Path → Bool) (under : Bool) (p : Path) → under ≡ false → (under ≡ false → (q : Path) → is_under q p ≡ true → P q ≡ false)
    → ((q : Path) → is_under p q ≡ true → P q ≡ false) → (q : Path) → overlaps p q ≡ true → bytes_eq p q ≡ false → P q ≡ false
none_around P under p no_under low high q over other = go (is_under p q) (is_under q p) refl refl (sym (ap (λ b. b || (is_under p q || is_under q p)) other) ∙ over)
  where
    go : (a b : Bool) → is_under p q ≡ a → is_under q p ≡ b → (is_under p q || is_under q p) ≡ true → P q ≡ false
    go true b ea eb h = high q ea
    go false true ea eb h = low no_under q eb
    go false false ea eb h = absurd (never_both (is_under p q || is_under q p) h (ap (λ v. v || is_under q p) ea ∙ eb))

pub none_at_all : (P : Path → Bool) (p : Path) → P p ≡ false → ((q : Path) → overlaps p q ≡ true → bytes_eq p q ≡ false → P q ≡ false) → (q : Path) → overlaps p q ≡ true → P q ≡ false
none_at_all P p here others q over = go (bytes_eq p q) refl
  where
    go : (v : Bool) → bytes_eq p q ≡ v → P q ≡ false
    go true same = subst (λ x. P x ≡ false) (same_place p q same) here
    go false other = others q over other
