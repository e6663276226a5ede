use Rattle.std.proofs.Common.{◌≡◌, ◌-◌, ◌+◌, ◌<◌, ℕ, suc, length, arith, subst, ap, ◌∙◌}
use Rattle.std.proofs.lemmas.List.{length-append}
use Rattle.smk_choose.specs.Told.{told_by}
use Rattle.smk_choose.specs.Reach.{HasGrown, Within}
use Rattle.smk_choose.proofs.Growing.{grows_then}
use Rattle.smk_choose.proofs.Spanning.{within_more, if_both, on_one}
use Rattle.smk_choose.proofs.reach.+deepen.Goals as goal

pub returns-clause-grown : goal.returns-clause-grown
returns-clause-grown _ c =
    let old = c.args.reach.now in
    let a = c.add_nodes.new.reach in
    let b = c.deepen.new.reach in
    on_one c.deepen.result (HasGrown a b) (HasGrown old b) (λ g. record { numbered = g.numbered; grows = grows_then old a b c.in_ok-add_nodes.ensures.grows g.grows }) c.deepen.ensures.grown

pub returns-clause-within : goal.returns-clause-within
returns-clause-within _ c =
    let flow = c.args.flow.now in
    let sources = told_by c.args.sources.now in
    let a = c.add_nodes.new.reach in
    let b = c.deepen.new.reach in
    let one = c.in_ok-add_nodes.ensures in
    let left = c.args.levels - 1 in
    let whole : suc left ≡ c.args.levels = omega (arith, c.if-levels-eq0.false) in
    let longer : length a.paths.items ≡ length c.args.reach.now.paths.items + length one.grows.added =
    ap length one.grows.paths ∙ length-append c.args.reach.now.paths.items one.grows.added in
    if_both c.deepen.result (HasGrown a b) (λ end. (n : ℕ) → n < length a.paths.items → Within sources b end left n)
    (λ end. (n : ℕ) → n < length c.args.reach.now.paths.items → Within sources b end c.args.levels n)
    (λ end g later n lt. subst (λ (k : ℕ). Within sources b end k n) whole
    (within_more flow sources a b end left n g.grows one.known (omega (arith, lt, longer))
    (omega (arith, lt, one.count, c.len-end.ensures, c.args.reach.now.paths.ok.0)) later))
    c.deepen.ensures.grown c.deepen.ensures.within
