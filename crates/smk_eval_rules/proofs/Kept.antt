-- Constraints by their names.
use Rattle.std.proofs.Common.{◌≡◌, ℕ, ◌+◌, ◌<◌, ◌||◌, Bool, true, false, cond, List, [], ◌∷◌, take, length, get_or, refl, ap, sym, ◌∙◌, Option, Some, is_some, bytes_eq, Bor}
use Rattle.std.specs.BTreeMap.{BTreeMap, get_by}
use Rattle.std.specs.Map.{update}
use Rattle.std.specs.Cmp.Lexicographic.{slice_cmp}
use Rattle.std.specs.Ordering.{nat_cmp}
use Rattle.std.proofs.lemmas.List.{take_more}
use Rattle.std.proofs.lemmas.List.Folds.{list_any-append}
use Rattle.smk_base.specs.declared.tree.Pair.{Pair}
use Rattle.smk_eval_rules.specs.Kept.{holds}
use Rattle.smk_eval_rules.specs.Rules.{is_among}

some_by : (b : Bool) (p : Bor Pair) (o : Option (Bor Pair)) → is_some (cond b (Some p) o) ≡ (b || is_some o)
some_by true p o = refl
some_by false p o = refl

turned : (a b : Bool) → (a || b) ≡ (b || (a || false))
turned true true = refl
turned true false = refl
turned false true = refl
turned false false = refl

-- with one more, what is kept is what stands there one place further
pub kept_more : (old new : BTreeMap (Bor (List ℕ)) (Bor Pair)) (limits : List Pair) (i : ℕ) (d : Pair) (p : Bor Pair) (key : List ℕ) → i < length limits → d ≡ get_or limits i d → key ≡ d.name
    → ((q : List ℕ) → get_by (λ k. slice_cmp nat_cmp q k.now) new ≡ update bytes_eq (λ ds. get_by (λ k. slice_cmp nat_cmp ds k.now) old) key (Some p) q)
    → ((q : List ℕ) → holds old q ≡ is_among (take i limits) q) → (q : List ℕ) → holds new q ≡ is_among (take (i + 1) limits) q
kept_more old new limits i d p key lt is same u h q =
    ap (λ (o : Option (Bor Pair)). is_some o) (u q)
    ∙ some_by (bytes_eq key q) p (get_by (λ k. slice_cmp nat_cmp q k.now) old)
    ∙ ap (λ (b : Bool). bytes_eq key q || b) (h q)
    ∙ ap (λ (n : List ℕ). bytes_eq n q || is_among (take i limits) q) same
    ∙ turned (bytes_eq d.name q) (is_among (take i limits) q)
    ∙ ap (λ (x : Pair). is_among (take i limits) q || (bytes_eq x.name q || false)) is
    ∙ sym (ap (λ (xs : List Pair). is_among xs q) (take_more limits i d lt)
    ∙ list_any-append (λ (x : Pair). bytes_eq x.name q) (take i limits) (get_or limits i d ∷ []))
