use Rattle.std.proofs.Common.{◌≡◌, ℕ, ◌+◌, ◌-◌, ◌∷◌, ◌∙◌, List, drop, ap, sym, subst, arith}
use Rattle.std.proofs.lemmas.List.{at_drop_more}
use Rattle.smk_base.specs.declared.tree.Pair.{Pair}
use Rattle.smk_pattern.specs.Reading.{by_name}
use Rattle.smk_flow.specs.Lent.{pairs_lent}
use Rattle.smk_flow_jobs.proofs.PairsPut.{one_put}
use Rattle.smk_flow_jobs.proofs.sorted.sorted.Goals as goal

pub pairs-preserved : goal.pairs-preserved
pairs-preserved c =
    let pairs = c.args.pairs.now in
    let n = c.pairs.at - 1 in
    let back : c.pairs.at ≡ n + 1 = omega (arith, c.pairs-test.true) in
    let p = c.index-pairs-at.result in
    let e : drop n pairs ≡ p ∷ drop (n + 1) pairs =
    at_drop_more (λ (xs : List Pair). xs) pairs n p (omega (arith, back, c.pairs.invariant.within)) ∙ ap (λ (x : Pair). x ∷ drop (n + 1) pairs) (sym c.index-pairs-at.is) in
    record {
      made = one_put pairs n p c.pairs.sorted.items c.put.new.sorted.items e
          (subst (λ (k : ℕ). pairs_lent c.pairs.sorted.items ≡ by_name (drop k pairs)) back c.pairs.invariant.made)
          c.in_ok-put.ensures;
      within = omega (arith, back, c.pairs.invariant.within);
    }
