use Rattle.std.proofs.Common.{◌≡◌, ◌-◌, ◌+◌, ◌<◌, ◌≤◌, ℕ, suc, length, arith, subst, ap, ◌∙◌}
use Rattle.std.proofs.lemmas.List.{length-append}
use Rattle.smk_choose.specs.Told.{told_by}
use Rattle.smk_choose.specs.Reach.{AreNumbered, Grows, HasGrown, Spans}
use Rattle.smk_choose.proofs.Growing.{grows_then}
use Rattle.smk_choose.proofs.Spanning.{spans_more, on_both, on_one}
use Rattle.smk_choose.proofs.reach.+expand.Goals as goal

pub returns-then-levels-eq0-clause-grown : goal.returns-then-levels-eq0-clause-grown
returns-then-levels-eq0-clause-grown _ c =
    let old = c.args.reach.now in
    let new = c.add_last.new.reach in
    on_both c.add_last.result (AreNumbered new) (Grows old new) (HasGrown old new) (λ n g. record { numbered = n; grows = g }) c.add_last.ensures.numbered c.add_last.ensures.grows

pub returns-clause-grown : goal.returns-clause-grown
returns-clause-grown _ c =
    let old = c.args.reach.now in
    let a = c.add_nodes.new.reach in
    let b = c.expand.new.reach in
    on_one c.expand.result (HasGrown a b) (HasGrown old b) (λ g. record { numbered = g.numbered; grows = grows_then old a b c.in_ok-add_nodes.ensures.grows g.grows }) c.expand.ensures.grown

pub returns-clause-spans : goal.returns-clause-spans
returns-clause-spans _ c =
    let flow = c.args.flow.now in
    let sources = told_by c.args.sources.now in
    let a = c.add_nodes.new.reach in
    let b = c.expand.new.reach in
    let one = c.in_ok-add_nodes.ensures in
    let left = c.args.levels - 1 in
    let whole : suc left ≡ c.args.levels = omega (arith, c.if-levels-eq0.false) in
    let longer : length a.paths.items ≡ length c.args.reach.now.paths.items + length one.grows.added =
    ap length one.grows.paths ∙ length-append c.args.reach.now.paths.items one.grows.added in
    on_both c.expand.result (HasGrown a b) ((n : ℕ) → n < length a.paths.items → Spans flow sources b left n)
    ((n : ℕ) → n < length c.args.reach.now.paths.items → Spans flow sources b c.args.levels n)
    (λ g later n lt. subst (λ (k : ℕ). Spans flow sources b k n) whole
    (spans_more flow sources a b left n g.grows one.known (omega (arith, lt, longer))
    (omega (arith, lt, one.count, c.len-end.ensures, c.args.reach.now.paths.ok.0)) later))
    c.expand.ensures.grown c.expand.ensures.spans

pub returns-clause-count : goal.returns-clause-count
returns-clause-count _ c =
    let b = c.expand.new.reach in
    let one = c.in_ok-add_nodes.ensures in
    let a = c.add_nodes.new.reach in
    let longer : length a.paths.items ≡ length c.args.reach.now.paths.items + length one.grows.added =
    ap length one.grows.paths ∙ length-append c.args.reach.now.paths.items one.grows.added in
    on_both c.expand.result (HasGrown a b) (length a.paths.items ≤ length b.nodes.items) (length c.args.reach.now.paths.items ≤ length b.nodes.items)
    (λ g count. omega (arith, longer, count)) c.expand.ensures.grown c.expand.ensures.count
