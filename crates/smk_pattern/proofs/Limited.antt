-- The wildcards of a pattern, one after another.
use Rattle.std.proofs.Common.{◌≡◌, refl, ℕ, zero, suc, ◌+◌, ◌<◌, List, [], ◌∷◌, ◌++◌, length, map, take, get_or, Option, Some, Bor, sym, ap, ap₂, subst, ◌∙◌, arith}
use Rattle.std.proofs.lemmas.List.{map_push, map_more, take-map}
use Rattle.std.specs.List.{slice_get}
use Rattle.smk_pattern.specs.declared.pattern.Wildcard as code
use Rattle.smk_pattern.specs.Shapes.{Text, Wildcard}
use Rattle.smk_pattern.specs.Limits.{IsLimit}
use Rattle.smk_pattern.specs.Pieces.{wildcards_of, wildcard_of}
use Rattle.smk_pattern.specs.Searching.{now_of}
use Rattle.smk_pattern.specs.Written.{wildcard_by, AreAllLimits, IsFirstBad}

pub wildcards_push : (limit_of : Text → Option Text) (made : List code.Wildcard) (w : code.Wildcard) (names : List (Bor Text)) (i : ℕ) (d : Bor Text) → i < length names →
    wildcards_of made ≡ map (wildcard_by limit_of) (now_of (take i names)) → w.name ≡ (get_or names i d).now →
    (wildcard_of w).limit ≡ limit_of (get_or names i d).now →
    wildcards_of (made ++ w ∷ []) ≡ map (wildcard_by limit_of) (now_of (take (i + 1) names))
wildcards_push limit_of made w names i d lt e en el =
    let same : wildcard_of w ≡ wildcard_by limit_of (get_or names i d).now = ap₂ (λ (n : Text) (l : Option Text). let x : Wildcard = record { name = n; limit = l } in x) en el in
    map_push wildcard_of made w ∙ ap₂ (λ (xs : List Wildcard) (x : Wildcard). xs ++ x ∷ []) e same
    ∙ sym (ap (map (wildcard_by limit_of)) (map_more (λ (b : Bor Text). b.now) names i d lt) ∙ map_push (wildcard_by limit_of) (now_of (take i names)) (get_or names i d).now)

limits_push : (limit_of : Text → Option Text) (names : List Text) (name : Text) → AreAllLimits limit_of names →
    ((limit : Text) → limit_of name ≡ Some limit → IsLimit limit) → AreAllLimits limit_of (names ++ name ∷ [])
limits_push limit_of [] name h g zero other limit e f =
    let same : name ≡ other = cc in
    g limit (subst (λ (n : Text). limit_of n ≡ Some limit) (sym same) f)
limits_push limit_of [] name h g (suc n) other limit e f = absurd cc
limits_push limit_of (x ∷ xs) name h g zero other limit e f = h zero other limit e f
limits_push limit_of (x ∷ xs) name h g (suc n) other limit e f = limits_push limit_of xs name (λ m. h (suc m)) g n other limit e f

pub limits_more : (limit_of : Text → Option Text) (names : List (Bor Text)) (i : ℕ) (d : Bor Text) → i < length names → AreAllLimits limit_of (now_of (take i names)) →
    ((limit : Text) → limit_of (get_or names i d).now ≡ Some limit → IsLimit limit) →
    AreAllLimits limit_of (now_of (take (i + 1) names))
limits_more limit_of names i d lt h g =
    subst (AreAllLimits limit_of) (sym (map_more (λ (b : Bor Text). b.now) names i d lt)) (limits_push limit_of (now_of (take i names)) (get_or names i d).now h g)

-- the first name whose constraint can't be one
pub first_bad : (limit_of : Text → Option Text) (names : List (Bor Text)) (i : ℕ) (d : Bor Text) (limit : Text) → i < length names → AreAllLimits limit_of (now_of (take i names)) →
    limit_of (get_or names i d).now ≡ Some limit → ¬ IsLimit limit → IsFirstBad limit_of (now_of names) (get_or names i d).now
first_bad limit_of names i d limit lt h is bad = record {
  n = i;
  at = at names i lt;
  limit = limit;
  is = is;
  bad = bad;
  before = subst (AreAllLimits limit_of) (sym (take-map (λ (b : Bor Text). b.now) i names)) h;
}
  where
    at : (names : List (Bor Text)) (i : ℕ) → i < length names → slice_get (now_of names) i ≡ Some (get_or names i d).now
    at [] i lt = absurd (omega (arith, lt))
    at (x ∷ xs) zero lt = refl
    at (x ∷ xs) (suc i) lt = at xs i (omega (arith, lt))
