-- The values of names, paired, name by name.
use Rattle.std.proofs.Common.{◌≡◌, ℕ, ◌+◌, ◌<◌, ◌≤◌, ◌==◌, ◌&&◌, Bool, true, false, cond, List, [], ◌∷◌, ◌++◌, drop, map, length, get_or, refl, ap, sym, ◌∙◌, append_assoc}
use Rattle.std.specs.List.{list_all, range_with_len}
use Rattle.std.proofs.lemmas.List.FromFn.{map-range_with_len_more}
use Rattle.std.proofs.lemmas.List.{at_drop_more, at_drop_all}
use Rattle.std.proofs.Math.Nat.{zero-add}
use Rattle.smk_eval_values.specs.declared.choices.Choices.{Choices}
use Rattle.smk_eval_values.specs.Letters.{Letter, stands}
use Rattle.smk_eval_values.specs.Expanding.{used, first_count, rows, has_each}

rows_by : (v : Bool) (c : Choices) (cs : List Choices) → first_count (cond v (c ∷ cs) cs) ≡ cond v (length c.values) (first_count cs)
rows_by true c cs = refl
rows_by false c cs = refl

pub rows_more : (ls : List Letter) (choices : List Choices) (i : ℕ) (d : Choices) → i < length choices
    → rows ls (drop i choices) ≡ cond (stands ls (get_or choices i d).name) (length (get_or choices i d).values) (rows ls (drop (i + 1) choices))
rows_more ls choices i d lt =
    at_drop_more (rows ls) choices i d lt ∙ rows_by (stands ls (get_or choices i d).name) (get_or choices i d) (used ls (drop (i + 1) choices))

pub rows_end : (ls : List Letter) (choices : List Choices) (i : ℕ) → length choices ≤ i → rows ls (drop i choices) ≡ 0
rows_end ls choices i le = at_drop_all (rows ls) choices i le

even_by : (n : ℕ) (v : Bool) (c : Choices) (cs : List Choices)
    → list_all (λ (k : Choices). length k.values == n) (cond v (c ∷ cs) cs) ≡ (cond v (length c.values == n) true && list_all (λ (k : Choices). length k.values == n) cs)
even_by n true c cs = refl
even_by n false c cs = refl

pub even_more : (n : ℕ) (ls : List Letter) (choices : List Choices) (i : ℕ) (d : Choices) → i < length choices
    → has_each n ls (drop i choices) ≡ (cond (stands ls (get_or choices i d).name) (length (get_or choices i d).values == n) true && has_each n ls (drop (i + 1) choices))
even_more n ls choices i d lt =
    at_drop_more (has_each n ls) choices i d lt ∙ even_by n (stands ls (get_or choices i d).name) (get_or choices i d) (used ls (drop (i + 1) choices))

pub even_end : (n : ℕ) (ls : List Letter) (choices : List Choices) (i : ℕ) → length choices ≤ i → has_each n ls (drop i choices) ≡ true
even_end n ls choices i le = at_drop_all (has_each n ls) choices i le

-- what the first name that stands in the pattern has
pub rows_here : (ls : List Letter) (choices : List Choices) (i whole : ℕ) (d : Choices) (v : Bool) → i < length choices → d ≡ get_or choices i d → v ≡ stands ls d.name
    → rows ls (drop i choices) ≡ whole → cond v (length d.values) (rows ls (drop (i + 1) choices)) ≡ whole
rows_here ls choices i whole d v lt e s h =
    ap (λ (w : Bool). cond w (length d.values) (rows ls (drop (i + 1) choices))) s
    ∙ ap (λ (k : Choices). cond (stands ls k.name) (length k.values) (rows ls (drop (i + 1) choices))) e
    ∙ sym (rows_more ls choices i d lt) ∙ h

pub row_added : (f : ℕ → List ℕ) (now texts was : List (List ℕ)) (t : List ℕ) (i : ℕ) → now ≡ texts ++ t ∷ [] → t ≡ f i → texts ≡ was ++ map f (range_with_len 0 i)
    → now ≡ was ++ map f (range_with_len 0 (i + 1))
row_added f now texts was t i n e h =
    n
    ∙ ap (λ (x : List (List ℕ)). x ++ t ∷ []) h
    ∙ ap (λ (x : List ℕ). (was ++ map f (range_with_len 0 i)) ++ x ∷ []) e
    ∙ append_assoc was (map f (range_with_len 0 i)) (f i ∷ [])
    ∙ ap (λ (x : List (List ℕ)). was ++ x) (sym (map-range_with_len_more f 0 i i (zero-add i)))
