-- A path has one binding.
use Rattle.std.proofs.Common.{◌≡◌, ℕ, suc, ◌+◌, inl, inr, List, [], ◌∷◌, ◌++◌, length, take, get_or, Option, refl, sym, ap, ap₂, ◌∙◌, arith, append_assoc, length-append}
use Rattle.std.proofs.lemmas.List.{append_cancel_left, get_or_append_left, take_at, length-map}
use Rattle.std.proofs.Math.Seq.{get_or-append_seam}
use Rattle.smk_pattern.specs.Shapes.{Part, Shape}
use Rattle.smk_pattern.specs.Shapes.Part.{text, wild}
use Rattle.smk_pattern.specs.Fitting.{filled, AllSuit, IsBinding}
use Rattle.smk_pattern.specs.Shapes.{IsNumbered}

all_len : (limits : List (Option (List ℕ))) (more : List (List ℕ)) → AllSuit limits more → length more ≡ length limits
all_len [] [] s = refl
all_len [] (v ∷ vs) s = absurd s
all_len (l ∷ ls) [] s = absurd s
all_len (l ∷ ls) (v ∷ vs) s = ap (λ n. suc n) (all_len ls vs s.2)

-- where the front is the same, the next value has the same length
abbrev SameLengths : List (List ℕ) → List (List ℕ) → Type 0
SameLengths a b = (n : ℕ) → take n a ≡ take n b → length (get_or a n []) ≡ length (get_or b n [])

same_front : (v w x y : List ℕ) → length v ≡ length w → v ++ x ≡ w ++ y → v ≡ w
same_front v w x y e f = sym (take_at v x (length w) e) ∙ ap (take (length w)) f ∙ take_at w y (length w) refl

same_rest : (ps : List Part) (all : ℕ) (known a b : List (List ℕ)) → IsNumbered ps (length known) all →
    length known + length a ≡ all → length known + length b ≡ all → filled ps (known ++ a) ≡ filled ps (known ++ b) → SameLengths a b → a ≡ b
same_rest [] all known [] [] num la lb e s = refl
same_rest [] all known [] (w ∷ b) num la lb e s = absurd (omega (arith, num, la, lb))
same_rest [] all known (v ∷ a) b num la lb e s = absurd (omega (arith, num, la, lb))
same_rest (text t ∷ ps) all known a b num la lb e s = same_rest ps all known a b num la lb (append_cancel_left t _ _ e) s
same_rest (wild n ∷ ps) all known a b (inl (lt, num)) la lb e s =
    let at : (more : List (List ℕ)) → get_or (known ++ more) n [] ≡ get_or known n [] = λ more. get_or_append_left known more [] n lt in
    same_rest ps all known a b num la lb (append_cancel_left (get_or known n []) _ _ (rw (at a, at b) at e)) s
same_rest (wild n ∷ ps) all known [] b (inr (same, lt, num)) la lb e s = absurd (omega (arith, la))
same_rest (wild n ∷ ps) all known (v ∷ a) [] (inr (same, lt, num)) la lb e s = absurd (omega (arith, lb))
same_rest (wild n ∷ ps) all known (v ∷ a) (w ∷ b) (inr (same, lt, num)) la lb e s =
    let at : (x : List ℕ) (more : List (List ℕ)) → get_or (known ++ (x ∷ more)) n [] ≡ x = λ x more. rw same (get_or-append_seam known x more []) in
    let f = rw (at v a, at w b) at e in
    let head : v ≡ w = same_front v w _ _ (s 0 refl) f in
    let tail : filled ps (known ++ (v ∷ a)) ≡ filled ps (known ++ (v ∷ b)) = append_cancel_left v _ _ (rw (← head) at f) in
    ap₂ ◌∷◌ head (same_rest ps all (known ++ v ∷ []) a b
    (rw (length-append known (v ∷ [])) num) (omega (arith, la, length-append known (v ∷ []))) (omega (arith, lb, length-append known (v ∷ [])))
    (rw (append_assoc known (v ∷ []) a, append_assoc known (v ∷ []) b) tail) (λ k eq. s (suc k) (ap₂ ◌∷◌ head eq)))

pub one_binding : (p : Shape) (path : List ℕ) (a b : List (List ℕ)) → IsNumbered p.parts 0 (length p.wildcards) → IsBinding p path a → IsBinding p path b → a ≡ b
one_binding p path a b num x y =
    let la = all_len _ a x.fits.suit ∙ length-map p.wildcards (λ w. w.limit) in
    let lb = all_len _ b y.fits.suit ∙ length-map p.wildcards (λ w. w.limit) in
    same_rest p.parts (length p.wildcards) [] a b num (omega (arith, la)) (omega (arith, lb)) (x.fits.fills ∙ sym y.fits.fills)
    (λ n e. let le = y.longest a x.fits n e in let ge = x.longest b y.fits n (sym e) in omega (arith, le, ge))
