-- How many parts stand behind the places of a wildcard.
use Rattle.std.proofs.Common.{◌≡◌, ℕ, zero, suc, ◌+◌, ◌≤◌, ◌==◌, ◌||◌, List, [], ◌∷◌, ◌++◌, length, get_or, set, Bool, true, false, refl, ap, ◌∙◌, arith, length-append}
use Rattle.std.proofs.lemmas.Bool.{eqb-true}
use Rattle.smk_pattern.specs.Shapes.{Part}
use Rattle.smk_pattern.specs.Shapes.Part.{text, wild}
use Rattle.smk_pattern.specs.Searching.{AreBehind, stands_in, with_place}

differs : (m n : ℕ) (b : Bool) → (m == n) ≡ b → (m ≡ n → ⊥) → b ≡ false
differs m n true e h = absurd (h (eqb-true m n e))
differs m n false e h = refl

stands_later : (m n : ℕ) (b : Bool) → (m ≡ n → ⊥) → b ≡ false → (m == n) || b ≡ false
stands_later m n b h e = ap (λ x. x || b) (differs m n (m == n) refl h) ∙ e

-- a wildcard doesn't stand where fewer parts are left than behind its last place
pub stands_not : (behind : List ℕ) (n : ℕ) (ps : List Part) → AreBehind behind ps → length ps ≤ get_or behind n 0 → stands_in n ps ≡ false
stands_not behind n [] a le = refl
stands_not behind n (text t ∷ ps) a le = stands_not behind n ps a (omega (arith, le))
stands_not behind n (wild m ∷ ps) a le =
    stands_later m n (stands_in n ps)
    (λ e. let same : get_or behind m 0 ≡ get_or behind n 0 = ap (λ k. get_or behind k 0) e in let least = a.0 in omega (arith, same, le))
    (stands_not behind n ps a.1 (omega (arith, le)))

-- the same for parts with so many more behind them
abbrev pub IsNoted : List ℕ → List Part → ℕ → Type 0
IsNoted behind [] extra = Unit {0}
IsNoted behind (text t ∷ ps) extra = IsNoted behind ps extra
IsNoted behind (wild n ∷ ps) extra = (get_or behind n 0 ≤ length ps + extra) × IsNoted behind ps extra

set_there : (behind : List ℕ) (n count : ℕ) → get_or (set behind n count) n 0 ≤ count
set_there [] n count = omega arith
set_there (b ∷ behind) zero count = omega arith
set_there (b ∷ behind) (suc n) count = set_there behind n count

set_any : (behind : List ℕ) (n m count k : ℕ) → get_or behind m 0 ≤ k → count ≤ k → get_or (set behind n count) m 0 ≤ k
set_any [] n m count k le less = le
set_any (b ∷ behind) zero zero count k le less = less
set_any (b ∷ behind) zero (suc m) count k le less = le
set_any (b ∷ behind) (suc n) zero count k le less = le
set_any (b ∷ behind) (suc n) (suc m) count k le less = set_any behind n m count k le less

place_any : (p : Part) (behind : List ℕ) (m count k : ℕ) → get_or behind m 0 ≤ k → count ≤ k → get_or (with_place p count behind) m 0 ≤ k
place_any (text t) behind m count k le less = le
place_any (wild n) behind m count k le less = set_any behind n m count k le less

pub noted_more : (behind : List ℕ) (ps : List Part) (p : Part) (extra : ℕ) → IsNoted behind ps (suc extra) → IsNoted (with_place p extra behind) (ps ++ p ∷ []) extra
noted_more behind [] (text t) extra h = tt
noted_more behind [] (wild n) extra h = (let le = set_there behind n extra in omega (arith, le), tt)
noted_more behind (text t ∷ ps) p extra h = noted_more behind ps p extra h
noted_more behind (wild m ∷ ps) p extra h =
    (place_any p behind m extra (length (ps ++ p ∷ []) + extra) (let le = h.0 in omega (arith, le, length-append ps (p ∷ []))) (omega (arith, length-append ps (p ∷ []))), noted_more behind ps p extra h.1)

pub noted_all : (behind : List ℕ) (ps : List Part) → IsNoted behind ps 0 → AreBehind behind ps
noted_all behind [] h = tt
noted_all behind (text t ∷ ps) h = noted_all behind ps h
noted_all behind (wild n ∷ ps) h = (let le = h.0 in omega (arith, le), noted_all behind ps h.1)
