-- How many texts a pattern gives.
use Rattle.std.proofs.Common.{◌≡◌, ℕ, suc, ◌+◌, ◌*◌, ◌<◌, ◌≤◌, Bool, true, false, cond, List, [], ◌∷◌, ◌++◌, length, refl, sym, ◌∙◌, arith, length-append}
use Rattle.std.specs.Prelude.{nat_lt}
use Rattle.std.specs.List.{flat_map}
use Rattle.std.proofs.lemmas.List.{append-nil}
use Rattle.std.proofs.lemmas.List.FromFn.{length-map-range_with_len}
use Rattle.smk_base.specs.declared.tree.Pair.{Pair}
use Rattle.smk_eval_values.specs.declared.choices.Choices.{Choices}
use Rattle.smk_eval_values.specs.Letters.{Letter, filled, stands}
use Rattle.smk_eval_values.specs.Expanding.{combined, rows, row, texts}
use Rattle.smk_eval_values.specs.Counting.{count_of, limited}

-- ## A product, limited

-- ## Lengths

length_each : {X Y : Type 0} (f : X → List Y) (n : ℕ) → ((x : X) → length (f x) ≡ n) → (xs : List X) → length (flat_map f xs) ≡ length xs * n
length_each f n h [] = let e : 0 * n ≡ 0 = omega arith in sym e
length_each f n h (x ∷ xs) =
    let one = h x in
    let more = length_each f n h xs in
    let both = length-append (f x) (flat_map f xs) in
    let e : suc (length xs) * n ≡ n + length xs * n = omega arith in
    omega (arith, one, more, both, e)

combined_by : (v : Bool) (a b : List (List ℕ)) (m n : ℕ) → length a ≡ m → length b ≡ n → length (cond v a b) ≡ cond v m n
combined_by true a b m n p q = p
combined_by false a b m n p q = q

pub length_combined : (ls : List Letter) (bound : List Pair) (cs : List Choices) → length (combined ls bound cs) ≡ count_of ls cs
length_combined ls bound [] = refl
length_combined ls bound (c ∷ cs) =
    combined_by (stands ls c.name) (flat_map (λ (v : List ℕ). combined ls (bound ++ record { name = c.name; value = v } ∷ []) cs) c.values) (combined ls bound cs) (length c.values * count_of ls cs) (count_of ls cs)
    (length_each (λ (v : List ℕ). combined ls (bound ++ record { name = c.name; value = v } ∷ []) cs) (count_of ls cs) (λ v. length_combined ls (bound ++ record { name = c.name; value = v } ∷ []) cs) c.values)
    (length_combined ls bound cs)

texts_by : (zip : Bool) (ls : List Letter) (choices : List Choices) → length (texts zip choices ls) ≡ cond zip (rows ls choices) (count_of ls choices)
texts_by true ls choices = length-map-range_with_len (λ i. filled (row i choices) ls) 0 (rows ls choices)
texts_by false ls choices = length_combined ls [] choices

pub length_texts : (zip : Bool) (choices : List Choices) (ls : List Letter) → length (texts zip choices ls) ≡ cond zip (rows ls choices) (count_of ls choices)
length_texts zip choices ls = texts_by zip ls choices

some_by : (n : ℕ) (v : Bool) → nat_lt 100_000 (suc n) ≡ v → cond v 100_001 (suc n) ≡ 0 → ⊥
some_by n true e h = omega (arith, h)
some_by n false e h = omega (arith, h)

pub nothing_more : (made xs : List (List ℕ)) → limited (length xs) ≡ 0 → made ≡ made ++ xs
nothing_more made [] h = sym (append-nil made)
nothing_more made (x ∷ xs) h = absurd (some_by (length xs) (nat_lt 100_000 (suc (length xs))) refl h)

-- ## Patterns in order
