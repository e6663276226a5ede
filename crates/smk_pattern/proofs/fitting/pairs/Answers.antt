use Rattle.std.proofs.Common.{◌≡◌, ℕ, List, [], ◌∷◌, ◌++◌, take, length, get_or, refl, sym, ap, ◌∙◌, Bor, arith, ◌<◌, ◌+◌}
use Rattle.std.proofs.lemmas.List.{map_more, length-take-le, length-map}
use Rattle.smk_base.specs.declared.tree.Pair.{Pair}
use Rattle.smk_pattern.specs.Shapes.{Wildcard}
use Rattle.smk_pattern.specs.Fitting.{bound_pairs}
use Rattle.smk_pattern.specs.Searching.{now_of}
use Rattle.smk_pattern.specs.declared.pattern.Wildcard as code
use Rattle.smk_pattern.specs.Pieces.{wildcards_of, wildcard_of}
use Rattle.smk_pattern.proofs.fitting.pairs.Goals as goal

bound_push : (ws : List Wildcard) (vs : List (List ℕ)) (w : Wildcard) (v : List ℕ) → length ws ≡ length vs →
    bound_pairs (ws ++ w ∷ []) (vs ++ v ∷ []) ≡ bound_pairs ws vs ++ record { name = w.name; value = v } ∷ []
bound_push [] [] w v e = refl
bound_push [] (x ∷ xs) w v e = absurd (omega (arith, e))
bound_push (x ∷ xs) [] w v e = absurd (omega (arith, e))
bound_push (x ∷ xs) (y ∷ ys) w v e = ap (λ (ps : List Pair). record { name = x.name; value = y } ∷ ps) (bound_push xs ys w v (omega (arith, e)))

bound_more : (ws : List code.Wildcard) (vs : List (Bor (List ℕ))) (i : ℕ) (dw : code.Wildcard) (dv : Bor (List ℕ)) (n v : List ℕ) → i < length ws →
    length ws ≡ length vs → n ≡ (get_or ws i dw).name → v ≡ (get_or vs i dv).now →
    bound_pairs (wildcards_of (take (i + 1) ws)) (now_of (take (i + 1) vs)) ≡ bound_pairs (wildcards_of (take i ws)) (now_of (take i vs)) ++ record { name = n; value = v } ∷ []
bound_more ws vs i dw dv n v h e en ev =
    let same : length (wildcards_of (take i ws)) ≡ length (now_of (take i vs)) =
    length-map (take i ws) wildcard_of ∙ length-take-le i ws (omega arith) ∙ sym (length-map (take i vs) (λ (b : Bor (List ℕ)). b.now) ∙ length-take-le i vs (omega arith)) in
    rw (map_more wildcard_of ws i dw h, map_more (λ (b : Bor (List ℕ)). b.now) vs i dv (omega arith), en, ev)
    (bound_push (wildcards_of (take i ws)) (now_of (take i vs)) (wildcard_of (get_or ws i dw)) (get_or vs i dv).now same)

pub loop-index-preserved : goal.loop-index-preserved
loop-index-preserved c =
    c.in_ok-push.ensures.ok
    ∙ ap (λ (ps : List Pair). ps ++ record { name = c.in_ok-copy.field-0; value = c.in_ok-of.field-0 } ∷ []) c.loop-index.invariant
    ∙ sym (bound_more c.args.wildcards.now c.args.values.now c.loop-index.index c.index-wildcards-index.result _ _ _ (omega arith) c.requires
    c.in_ok-copy.ensures c.in_ok-of.ensures)
