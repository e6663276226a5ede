-- From a place in the pattern to the next one.
use Rattle.std.proofs.Common.{◌≡◌, ℕ, ◌+◌, ◌-◌, ◌<◌, ◌≤◌, inl, inr, List, [], ◌∷◌, ◌++◌, length, get_or, Option, sym, ap, subst, ◌∙◌, arith, IsUtf8, length-append}
use Rattle.std.proofs.Math.Seq.{get_or-append_right}
use Rattle.smk_pattern.specs.Shapes.{Part, IsNumbered}
use Rattle.smk_pattern.specs.Shapes.Part.{text, wild}
use Rattle.smk_pattern.specs.Searching.{IsKnown, AreBehind, IsPlace}

pub open_numbered : (n known all : ℕ) (ps : List Part) → n ≡ known → IsNumbered (wild n ∷ ps) known all → IsNumbered ps (known + 1) all
open_numbered n known all ps e (inl x) = let lt = x.0 in absurd (omega arith)
open_numbered n known all ps e (inr x) = x.2

behind_later : (behind : List ℕ) (p : Part) (ps : List Part) → AreBehind behind (p ∷ ps) → AreBehind behind ps
behind_later behind (text t) ps a = a
behind_later behind (wild n) ps a = a.1

-- a wildcard whose value isn't known stands for different texts
not_known : (n : ℕ) (known : List (List ℕ)) (t : List ℕ) → IsKnown (wild n) known t → n ≡ length known → ⊥
not_known n known t k e =
    let z : n - length known ≡ 0 = omega arith in
    let a = sym (get_or-append_right known [] n [] (omega arith)) ∙ k.stands [] in
    let b = sym (get_or-append_right known ((0 ∷ []) ∷ []) n [] (omega arith)) ∙ k.stands ((0 ∷ []) ∷ []) in
    let c : get_or {A = List ℕ} ((0 ∷ []) ∷ []) (n - length known) [] ≡ [] = b ∙ sym a in
    let d : get_or {A = List ℕ} ((0 ∷ []) ∷ []) 0 [] ≡ [] = subst (λ (m : ℕ). get_or {A = List ℕ} ((0 ∷ []) ∷ []) m [] ≡ []) z c in
    absurd cc

known_numbered : (p : Part) (ps : List Part) (known : List (List ℕ)) (t : List ℕ) (all : ℕ) → IsKnown p known t → IsNumbered (p ∷ ps) (length known) all → IsNumbered ps (length known) all
known_numbered (text u) ps known t all k x = x
known_numbered (wild n) ps known t all k (inl x) = x.1
known_numbered (wild n) ps known t all k (inr x) = absurd (not_known n known t k x.0)

pub known_place : (p : Part) (ps : List Part) (limits : List (Option (List ℕ))) (behind : List ℕ) (known : List (List ℕ)) (rest t after : List ℕ) →
    IsKnown p known t → IsUtf8 after → IsPlace (p ∷ ps) limits behind known rest → IsPlace ps limits behind known after
known_place p ps limits behind known rest t after k u x = record {
  utf8 = u;
  numbered = known_numbered p ps known t (length limits) k x.numbered;
  places = behind_later behind p ps x.places;
}

pub open_place : (n : ℕ) (ps : List Part) (limits : List (Option (List ℕ))) (behind : List ℕ) (known now : List (List ℕ)) (rest value after : List ℕ) →
    n ≡ length known → now ≡ known ++ value ∷ [] → IsUtf8 after → IsPlace (wild n ∷ ps) limits behind known rest → IsPlace ps limits behind now after
open_place n ps limits behind known now rest value after e f u x = record {
  utf8 = u;
  numbered = subst (λ (k : ℕ). IsNumbered ps k (length limits)) (sym (ap length f ∙ length-append known (value ∷ []))) (open_numbered n (length known) (length limits) ps e x.numbered);
  places = behind_later behind (wild n) ps x.places;
}
