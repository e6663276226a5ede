-- Combinations, name by name.
use Rattle.std.proofs.Common.{◌≡◌, ℕ, ◌<◌, Bool, true, false, cond, List, [], ◌∷◌, ◌++◌, drop, length, get_or, ap, sym, ◌∙◌, arith}
use Rattle.std.specs.List.{flat_map}
use Rattle.smk_base.specs.declared.tree.Pair.{Pair}
use Rattle.smk_eval_values.specs.declared.choices.Choices.{Choices}
use Rattle.smk_eval_values.specs.Letters.{Letter, stands}
use Rattle.smk_eval_values.specs.Expanding.{combined}

combined_by : (ls : List Letter) (bound : List Pair) (c : Choices) (cs : List Choices) (v : Bool) → v ≡ stands ls c.name
    → combined ls bound (c ∷ cs) ≡ cond v (flat_map (λ (v : List ℕ). combined ls (bound ++ record { name = c.name; value = v } ∷ []) cs) c.values) (combined ls bound cs)
combined_by ls bound c cs v e =
    ap (λ (w : Bool). cond w (flat_map (λ (v : List ℕ). combined ls (bound ++ record { name = c.name; value = v } ∷ []) cs) c.values) (combined ls bound cs)) (sym e)

pub combined_here : (ls : List Letter) (bound : List Pair) (choices : List Choices) (later : List Choices) (c : Choices) (v : Bool) → later ≡ drop 1 choices → 0 < length choices → c ≡ get_or choices 0 c → v ≡ stands ls c.name
    → combined ls bound choices
    ≡ cond v (flat_map (λ (t : List ℕ). combined ls (bound ++ record { name = c.name; value = t } ∷ []) later) c.values) (combined ls bound later)
combined_here ls bound [] later c v same lt e s = absurd (omega arith)
combined_here ls bound (d ∷ cs) later c v same lt e s =
    ap (λ (k : Choices). combined ls bound (k ∷ cs)) (sym e) ∙ ap (λ (ks : List Choices). combined ls bound (c ∷ ks)) (sym same) ∙ combined_by ls bound c later v s

pub combined_found : (ls : List Letter) (bound : List Pair) (choices : List Choices) (later : List Choices) (c : Choices) (v : Bool) → later ≡ drop 1 choices → 0 < length choices → c ≡ get_or choices 0 c → v ≡ stands ls c.name → v ≡ true
    → flat_map (λ (t : List ℕ). combined ls (bound ++ record { name = c.name; value = t } ∷ []) later) c.values ≡ combined ls bound choices
combined_found ls bound choices later c v same lt e s is =
    sym (combined_here ls bound choices later c v same lt e s
    ∙ ap (λ (w : Bool). cond w (flat_map (λ (t : List ℕ). combined ls (bound ++ record { name = c.name; value = t } ∷ []) later) c.values) (combined ls bound later)) is)

pub combined_passed : (ls : List Letter) (bound : List Pair) (choices : List Choices) (later : List Choices) (c : Choices) (v : Bool) → later ≡ drop 1 choices → 0 < length choices → c ≡ get_or choices 0 c → v ≡ stands ls c.name → v ≡ false
    → combined ls bound later ≡ combined ls bound choices
combined_passed ls bound choices later c v same lt e s is =
    sym (combined_here ls bound choices later c v same lt e s
    ∙ ap (λ (w : Bool). cond w (flat_map (λ (t : List ℕ). combined ls (bound ++ record { name = c.name; value = t } ∷ []) later) c.values) (combined ls bound later)) is)
