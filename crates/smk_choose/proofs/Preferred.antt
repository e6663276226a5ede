-- Which of two rules is preferred, found step by step.
use Rattle.std.proofs.Common.{◌≡◌, ℕ, zero, suc, ◌+◌, ◌-◌, ◌<◌, ◌==◌, ◌||◌, ◌&&◌, Bool, true, false, cond, List, [], ◌∷◌, reverse, get_or, drop, length, bytes_eq, refl, sym, ap, ◌∙◌, arith, true≢false}
use Rattle.std.proofs.lemmas.List.{at_drop_more}
use Rattle.std.proofs.lemmas.List.Folds.{list_any-append}
use Rattle.std.specs.List.{list_any, flat_map}
use Rattle.smk_world.specs.Trees.{among}
use Rattle.smk_pattern.specs.Shapes.{Text}
use Rattle.smk_pattern.specs.Reading.{is_hole, has_wildcards, pieces_from, ended, depth_after, held_after, plain_of, hole_of}
use Rattle.smk_choose.specs.Choose.{has_before}

-- ---- wildcards

-- a wildcard ends with this byte
abbrev pub closes : ℕ → ℕ → Bool
closes b zero = false
closes b (suc zero) = b == 125
closes b (suc (suc depth)) = false

-- a wildcard ends in the text, where so many braces are open before it
abbrev pub closes_in : ℕ → Text → Bool
closes_in depth [] = false
closes_in depth (b ∷ t) = closes b depth || closes_in (depth_after b depth) t

no_hole : (held : Text) → list_any is_hole (plain_of held) ≡ false
no_hole [] = refl
no_hole (b ∷ held) = refl

ends : (b depth : ℕ) (held : Text) → list_any is_hole (ended b depth held) ≡ closes b depth
ends b zero held = opens (b == 123)
  where
    opens : (o : Bool) → list_any is_hole (cond o (plain_of held) []) ≡ false
    opens true = no_hole held
    opens false = refl
ends b (suc zero) held = shuts (b == 125)
  where
    shuts : (o : Bool) → list_any is_hole (cond o (hole_of (reverse held) ∷ []) []) ≡ o
    shuts true = refl
    shuts false = refl
ends b (suc (suc depth)) held = refl

holes : (t : Text) (depth : ℕ) (held : Text) → list_any is_hole (pieces_from t depth held) ≡ closes_in depth t
holes [] depth held = no_hole held
holes (b ∷ t) depth held =
    list_any-append is_hole (ended b depth held) (pieces_from t (depth_after b depth) (held_after b depth held))
    ∙ ap (λ x. x || list_any is_hole (pieces_from t (depth_after b depth) (held_after b depth held))) (ends b depth held)
    ∙ ap (λ x. closes b depth || x) (holes t (depth_after b depth) (held_after b depth held))

pub wildcards_close : (t : Text) → has_wildcards t ≡ closes_in 0 t
wildcards_close t = holes t 0 []

pub close_step : (t : Text) (i depth b next : ℕ) → i < length t → b ≡ get_or t i b → closes b depth ≡ false → depth_after b depth ≡ next →
    closes_in depth (drop i t) ≡ closes_in next (drop (i + 1) t)
close_step t i depth b next lt at apart e =
    at_drop_more (closes_in depth) t i b lt
    ∙ ap (λ c. closes c depth || closes_in (depth_after c depth) (drop (i + 1) t)) (sym at)
    ∙ ap (λ x. x || closes_in (depth_after b depth) (drop (i + 1) t)) apart
    ∙ ap (λ d. closes_in d (drop (i + 1) t)) e

pub close_here : (t : Text) (i b : ℕ) → i < length t → b ≡ get_or t i b → b ≡ 125 → closes_in 1 (drop i t) ≡ true
close_here t i b lt at e =
    at_drop_more (closes_in 1) t i b lt
    ∙ ap (λ c. closes c 1 || closes_in (depth_after c 1) (drop (i + 1) t)) (sym at ∙ e)

-- what the code does to the number of open braces
pub opening : (depth : ℕ) → (closes 123 depth ≡ false) × (depth_after 123 depth ≡ depth + 1)
opening zero = (refl, refl)
opening (suc zero) = (refl, refl)
opening (suc (suc depth)) = (refl, omega arith)

pub closing : (depth : ℕ) → (depth ≡ 1 → ⊥) → (closes 125 depth ≡ false) × (depth_after 125 depth ≡ depth - 1)
closing zero apart = (refl, refl)
closing (suc zero) apart = absurd (apart refl)
closing (suc (suc depth)) apart = (refl, omega arith)

pub others : (b depth : ℕ) → (b == 123) ≡ false → (b == 125) ≡ false → (closes b depth ≡ false) × (depth_after b depth ≡ depth)
others b zero e f = (refl, ap (λ t. cond t 1 0) e)
others b (suc zero) e f = (f, ap (λ t. cond t 2 (cond (b == 125) 0 1)) e ∙ ap (λ t. cond t 0 1) f)
others b (suc (suc depth)) e f =
    (refl, ap (λ t. cond t (suc (suc (suc depth))) (cond (b == 125) (suc depth) (suc (suc depth)))) e ∙ ap (λ t. cond t (suc depth) (suc (suc depth))) f)

-- ---- lists of lists

pub any_flat : {A B : Type 0} (p : B → Bool) (f : A → List B) (xs : List A) → list_any p (flat_map f xs) ≡ list_any (λ x. list_any p (f x)) xs
any_flat p f [] = refl
any_flat p f (x ∷ xs) = list_any-append p (f x) (flat_map f xs) ∙ ap (λ b. list_any p (f x) || b) (any_flat p f xs)

-- ---- clauses

-- the second stands among the names, where the first has been seen, or the names have both in this order
abbrev pub before_from : Text → Text → Bool → List Text → Bool
before_from a b seen names = (seen && among names b) || has_before a b names

one_name : (seen here first later rest : Bool) → (seen && here) ≡ false →
    ((seen && (here || later)) || ((first && later) || rest)) ≡ (((seen || first) && later) || rest)
one_name true true first later rest e = absurd (true≢false e)
one_name true false first true rest e = refl
one_name true false true false rest e = refl
one_name true false false false rest e = refl
one_name false here true true rest e = refl
one_name false here true false rest e = refl
one_name false here false true rest e = refl
one_name false here false false rest e = refl

pub before_step : (a b : Text) (seen : Bool) (names : List Text) (i : ℕ) (name : Text) (here first : Bool) → i < length names → name ≡ get_or names i name →
    here ≡ bytes_eq b name → first ≡ bytes_eq a name → (seen && here) ≡ false →
    before_from a b seen (drop i names) ≡ before_from a b (seen || first) (drop (i + 1) names)
before_step a b seen names i name here first lt at e f apart =
    at_drop_more (before_from a b seen) names i name lt
    ∙ ap (λ n. before_from a b seen (n ∷ drop (i + 1) names)) (sym at)
    ∙ one_name seen (bytes_eq b name) (bytes_eq a name) (among (drop (i + 1) names) b) (has_before a b (drop (i + 1) names)) (ap (λ x. seen && x) (sym e) ∙ apart)
    ∙ ap (λ x. before_from a b (seen || x) (drop (i + 1) names)) (sym f)

pub before_here : (a b : Text) (names : List Text) (i : ℕ) (name : Text) → i < length names → name ≡ get_or names i name → bytes_eq b name ≡ true →
    before_from a b true (drop i names) ≡ true
before_here a b names i name lt at e =
    at_drop_more (before_from a b true) names i name lt
    ∙ ap (λ n. before_from a b true (n ∷ drop (i + 1) names)) (sym at)
    ∙ ap (λ x. (x || among (drop (i + 1) names) b) || has_before a b (name ∷ drop (i + 1) names)) e
