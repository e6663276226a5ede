-- Pairs that are put among others by name.
use Rattle.std.proofs.Common.{◌≡◌, ℕ, suc, ◌+◌, List, [], ◌∷◌, drop, Bor, Bool, true, false, cond, refl, sym, ap, ◌∙◌}
use Rattle.std.specs.List.{insert}
use Rattle.smk_base.specs.declared.tree.Pair.{Pair}
use Rattle.smk_pattern.specs.Reading.{is_below, put, by_name}
use Rattle.smk_flow.specs.Lent.{pairs_lent, place_among}

pub put_at : (xs : List (Bor Pair)) (r : Bor Pair) → pairs_lent (insert xs (place_among r.now (pairs_lent xs)) r) ≡ put r.now (pairs_lent xs)
put_at [] r = refl
put_at (q ∷ xs) r = go (is_below r.now.name q.now.name) (put_at xs r)
  where
    go : (b : Bool) → pairs_lent (insert xs (place_among r.now (pairs_lent xs)) r) ≡ put r.now (pairs_lent xs) →
        pairs_lent (insert (q ∷ xs) (cond b 0 (suc (place_among r.now (pairs_lent xs)))) r) ≡ cond b (r.now ∷ q.now ∷ pairs_lent xs) (q.now ∷ put r.now (pairs_lent xs))
    go true h = refl
    go false h = ap (λ (ps : List Pair). q.now ∷ ps) h

-- the pair at this place is put among those behind it
pub one_put : (pairs : List Pair) (n : ℕ) (p : Pair) (old new : List (Bor Pair)) → drop n pairs ≡ p ∷ drop (n + 1) pairs →
    pairs_lent old ≡ by_name (drop (n + 1) pairs) → pairs_lent new ≡ put p (pairs_lent old) → pairs_lent new ≡ by_name (drop n pairs)
one_put pairs n p old new e before made = made ∙ ap (put p) before ∙ ap by_name (sym e)
