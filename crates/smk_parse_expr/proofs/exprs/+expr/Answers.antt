use Rattle.std.proofs.Common.{rules, arith}
use Rattle.std.proofs.lemmas.Grind.{common_steps}
use Rattle.smk_parse_expr.specs.Exprs.{terms, terms_from, listed, listed_from, arguments, arguments_from, expr, inner_of}
use Rattle.smk_parse_expr.proofs.Turns.{one_more, no_more}
use Rattle.smk_parse_expr.proofs.exprs.+expr.Goals as goal

pub terms-loop-turn-init : goal.terms-loop-turn-init
unfolding terms
terms-loop-turn-init t c = first_of (search rules, grind (arith, common_steps))

pub terms-returns-then-not-eat : goal.terms-returns-then-not-eat
unfolding terms_from
terms-returns-then-not-eat t c =
    let e = one_more (λ n. terms_from (inner_of c.args.depth) n c.loop-turn.found c.loop-turn.cursor) _ c.loop-turn._turn c.loop-turn-test.true c.loop-turn.invariant in
    first_of (search rules, grind (arith, common_steps))

pub terms-returns-in_err-next : goal.terms-returns-in_err-next
unfolding terms_from
terms-returns-in_err-next t c =
    let e = one_more (λ n. terms_from (inner_of c.args.depth) n c.loop-turn.found c.loop-turn.cursor) _ c.loop-turn._turn c.loop-turn-test.true c.loop-turn.invariant in
    first_of (search rules, grind (arith, common_steps))

pub terms-loop-turn-preserved : goal.terms-loop-turn-preserved
unfolding terms_from
terms-loop-turn-preserved t c =
    let e = one_more (λ n. terms_from (inner_of c.args.depth) n c.loop-turn.found c.loop-turn.cursor) _ c.loop-turn._turn c.loop-turn-test.true c.loop-turn.invariant in
    first_of (search rules, grind (arith, common_steps))

pub terms-returns : goal.terms-returns
unfolding terms_from
terms-returns t c =
    let e = no_more (λ n. terms_from (inner_of c.args.depth) n c.loop-turn.found c.loop-turn.cursor) _ c.loop-turn._turn c.loop-turn-test.false c.loop-turn.invariant in
    first_of (search rules, grind (arith, common_steps))

pub listed-loop-turn-init : goal.listed-loop-turn-init
unfolding listed
listed-loop-turn-init t c = first_of (search rules, grind (arith, common_steps))

pub listed-returns-then-eat : goal.listed-returns-then-eat
unfolding listed_from
listed-returns-then-eat t c =
    let e = one_more (λ n. listed_from (expr c.args.depth) n c.loop-turn.found c.loop-turn.cursor) _ c.loop-turn._turn c.loop-turn-test.true c.loop-turn.invariant in
    first_of (search rules, grind (arith, common_steps))

pub listed-returns-in_err-next : goal.listed-returns-in_err-next
unfolding listed_from
listed-returns-in_err-next t c =
    let e = one_more (λ n. listed_from (expr c.args.depth) n c.loop-turn.found c.loop-turn.cursor) _ c.loop-turn._turn c.loop-turn-test.true c.loop-turn.invariant in
    first_of (search rules, grind (arith, common_steps))

pub listed-returns-in_err-expect : goal.listed-returns-in_err-expect
unfolding listed_from
listed-returns-in_err-expect t c =
    let e = one_more (λ n. listed_from (expr c.args.depth) n c.loop-turn.found c.loop-turn.cursor) _ c.loop-turn._turn c.loop-turn-test.true c.loop-turn.invariant in
    first_of (search rules, grind (arith, common_steps))

pub listed-returns-then-not-eat : goal.listed-returns-then-not-eat
unfolding listed_from
listed-returns-then-not-eat t c =
    let e = one_more (λ n. listed_from (expr c.args.depth) n c.loop-turn.found c.loop-turn.cursor) _ c.loop-turn._turn c.loop-turn-test.true c.loop-turn.invariant in
    first_of (search rules, grind (arith, common_steps))

pub listed-loop-turn-preserved : goal.listed-loop-turn-preserved
unfolding listed_from
listed-loop-turn-preserved t c =
    let e = one_more (λ n. listed_from (expr c.args.depth) n c.loop-turn.found c.loop-turn.cursor) _ c.loop-turn._turn c.loop-turn-test.true c.loop-turn.invariant in
    first_of (search rules, grind (arith, common_steps))

pub listed-returns : goal.listed-returns
unfolding listed_from
listed-returns t c =
    let e = no_more (λ n. listed_from (expr c.args.depth) n c.loop-turn.found c.loop-turn.cursor) _ c.loop-turn._turn c.loop-turn-test.false c.loop-turn.invariant in
    first_of (search rules, grind (arith, common_steps))

pub arguments-loop-turn-init : goal.arguments-loop-turn-init
unfolding arguments
arguments-loop-turn-init t c = first_of (search rules, grind (arith, common_steps))

pub arguments-returns-then-eat : goal.arguments-returns-then-eat
unfolding arguments_from
arguments-returns-then-eat t c =
    let e = one_more (λ n. arguments_from (expr c.args.depth) n c.loop-turn.found c.loop-turn.cursor) _ c.loop-turn._turn c.loop-turn-test.true c.loop-turn.invariant in
    first_of (search rules, grind (arith, common_steps))

pub arguments-returns-then-not-more : goal.arguments-returns-then-not-more
unfolding arguments_from
arguments-returns-then-not-more t c =
    let e = one_more (λ n. arguments_from (expr c.args.depth) n c.loop-turn.found c.loop-turn.cursor) _ c.loop-turn._turn c.loop-turn-test.true c.loop-turn.invariant in
    first_of (search rules, grind (arith, common_steps))

pub arguments-returns-in_err-next : goal.arguments-returns-in_err-next
unfolding arguments_from
arguments-returns-in_err-next t c =
    let e = one_more (λ n. arguments_from (expr c.args.depth) n c.loop-turn.found c.loop-turn.cursor) _ c.loop-turn._turn c.loop-turn-test.true c.loop-turn.invariant in
    first_of (search rules, grind (arith, common_steps))

pub arguments-loop-turn-preserved : goal.arguments-loop-turn-preserved
unfolding arguments_from
arguments-loop-turn-preserved t c =
    let e = one_more (λ n. arguments_from (expr c.args.depth) n c.loop-turn.found c.loop-turn.cursor) _ c.loop-turn._turn c.loop-turn-test.true c.loop-turn.invariant in
    first_of (search rules, grind (arith, common_steps))

pub arguments-returns : goal.arguments-returns
unfolding arguments_from
arguments-returns t c =
    let e = no_more (λ n. arguments_from (expr c.args.depth) n c.loop-turn.found c.loop-turn.cursor) _ c.loop-turn._turn c.loop-turn-test.false c.loop-turn.invariant in
    first_of (search rules, grind (arith, common_steps))
