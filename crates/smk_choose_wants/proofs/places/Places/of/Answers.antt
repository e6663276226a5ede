use Rattle.std.proofs.Common.{◌≡◌, ◌∙◌, ℕ, ◌+◌, ◌-◌, List, ◌∷◌, drop, bytes_eq, cond, Some, ap, sym, subst, arith}
use Rattle.std.specs.BTreeMap.{get_by_text}
use Rattle.std.specs.List.{find}
use Rattle.std.proofs.lemmas.List.{at_drop_more}
use Rattle.smk_chain.specs.declared.jobs.Known.{Known}
use Rattle.smk_choose_wants.specs.Wants.{placed_in}
use Rattle.smk_choose_wants.proofs.Placed.{one_before}
use Rattle.smk_choose_wants.proofs.places.Places.of.Goals as goal

pub lists-preserved : goal.lists-preserved
lists-preserved c =
    let lists = c.as_slice-known.result.now in
    let n = c.lists.number - 1 in
    let back : c.lists.number ≡ n + 1 = omega (arith, c.lists-test.true) in
    let known = c.index-known-number.result in
    let e : drop n lists ≡ known ∷ drop (n + 1) lists =
    at_drop_more (λ (xs : List Known). xs) lists n known (omega (arith, back, c.lists.invariant.within)) ∙ ap (λ (x : Known). x ∷ drop (n + 1) lists) (sym c.index-known-number.is) in
    record {
      at = λ q. one_before lists n known q (get_by_text c.lists.numbers q) (get_by_text c.put.new.numbers q) e
          (c.in_ok-put.ensures q ∙ ap (λ (x : Known). cond (bytes_eq x.folder q) (Some n) (get_by_text c.lists.numbers q)) (sym c.index-known-number.is))
          (subst (λ (k : ℕ). placed_in lists (get_by_text c.lists.numbers q) ≡ find (λ (k : Known). bytes_eq k.folder q) (drop k lists)) back (c.lists.invariant.at q));
      within = omega (arith, back, c.lists.invariant.within);
    }
