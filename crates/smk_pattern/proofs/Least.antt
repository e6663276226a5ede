-- The least length of a path that a pattern gives.
use Rattle.std.proofs.Common.{◌≡◌, ℕ, zero, suc, ◌+◌, ◌<◌, ◌≤◌, List, [], ◌∷◌, ◌++◌, length, take, drop, get_or, ◌↔◌, sym, ap, subst, ◌∙◌, arith, length-append, true, nat_lt}
use Rattle.std.proofs.lemmas.Bool.Decides.{nat_tests}
use Rattle.std.proofs.lemmas.List.{append_cancel_left, at_drop_more}
use Rattle.smk_pattern.specs.declared.pattern.Piece.{Piece}
use Rattle.smk_pattern.specs.declared.pattern.Wildcard as code
use Rattle.smk_pattern.specs.Shapes.{Text}
use Rattle.smk_pattern.specs.Fitting.{filled, part_text, AllSuit, Suits}
use Rattle.smk_pattern.specs.Pieces.{part_of, parts_of, wildcard_of, limits_of}
use Rattle.smk_pattern.proofs.Filled.{filled_more}

-- a value meets the constraint of its wildcard
suit_at : (ws : List code.Wildcard) (values : List Text) (n : ℕ) (d : code.Wildcard) → AllSuit (limits_of ws) values → n < length ws →
    Suits (wildcard_of (get_or ws n d)).limit (get_or values n [])
suit_at [] values n d s lt = absurd (omega (arith, lt))
suit_at (w ∷ ws) [] n d s lt = absurd s
suit_at (w ∷ ws) (v ∷ vs) zero d s lt = s.1
suit_at (w ∷ ws) (v ∷ vs) (suc n) d s lt = suit_at ws vs n d s.2 (omega (arith, lt))

pub suit_of : (ws : List code.Wildcard) (values : List Text) (n : ℕ) (w : code.Wildcard) → AllSuit (limits_of ws) values → true ≡ nat_lt n (length ws) → w ≡ get_or ws n w →
    Suits (wildcard_of w).limit (get_or values n [])
suit_of ws values n w s lt e = subst (λ (x : code.Wildcard). Suits (wildcard_of x).limit (get_or values n [])) (sym e) (suit_at ws values n w s (less n (length ws) lt))
  where
    less : (m n : ℕ) → true ≡ nat_lt m n → m < n
    less m n h = grind (arith, nat_tests)

-- one more piece
pub least_more : (pieces : List Piece) (i : ℕ) (d : Piece) (values : List Text) (least part next : ℕ) → i < length pieces → next ≤ least + part → d ≡ get_or pieces i d →
    least ≤ length (filled (parts_of (take i pieces)) values) → part ≤ length (part_text values (part_of d)) →
    next ≤ length (filled (parts_of (take (i + 1) pieces)) values)
least_more pieces i d values least part next lt sum is front here =
    let same = ap (λ (p : Piece). length (part_text values (part_of p))) is in
    let e = ap length (filled_more pieces i values d lt) ∙ length-append (filled (parts_of (take i pieces)) values) (part_text values (part_of (get_or pieces i d))) in
    omega (arith, e, same, sum, front, here)

-- ---- patterns without wildcards

-- the pieces from a place on, and those behind one of them
pub text_past : (pieces : List Piece) (i : ℕ) (d : Piece) (after rest : Text) → i < length pieces → d ≡ get_or pieces i d → rest ≡ part_text [] (part_of d) ++ after →
    {X : Type 0} → (filled (parts_of (drop i pieces)) [] ≡ rest) ↔ X → (filled (parts_of (drop (i + 1) pieces)) [] ≡ after) ↔ X
text_past pieces i d after rest lt is e h =
    let same : drop i pieces ≡ d ∷ drop (i + 1) pieces =
    at_drop_more (λ (xs : List Piece). xs) pieces i d lt ∙ ap (λ (x : Piece). x ∷ drop (i + 1) pieces) (sym is) in
    let whole : filled (parts_of (drop i pieces)) [] ≡ part_text [] (part_of d) ++ filled (parts_of (drop (i + 1) pieces)) [] = ap (λ (ps : List Piece). filled (parts_of ps) []) same in
    (λ f. h.0 (whole ∙ ap (λ x. part_text [] (part_of d) ++ x) f ∙ sym e), λ x. append_cancel_left (part_text [] (part_of d)) _ after (sym whole ∙ h.1 x ∙ e))
