use Rattle.std.proofs.Common.{rules, arith}
use Rattle.std.proofs.lemmas.Grind.{common_steps}
use Rattle.smk_parse_expr.specs.Exprs.{keys, keys_from}
use Rattle.smk_parse_expr.proofs.Turns.{one_more, no_more}
use Rattle.smk_parse_expr.proofs.exprs.keys.Goals as goal

pub loop-turn-init : goal.loop-turn-init
unfolding keys
loop-turn-init c = first_of (search rules, grind (arith, common_steps))

pub returns-then-not-eat : goal.returns-then-not-eat
unfolding keys_from
returns-then-not-eat c =
    let e = one_more (λ n. keys_from n c.loop-turn.found c.loop-turn.cursor) _ c.loop-turn._turn c.loop-turn-test.true c.loop-turn.invariant in
    first_of (search rules, grind (arith, common_steps))

pub returns-in_err-key : goal.returns-in_err-key
unfolding keys_from
returns-in_err-key c =
    let e = one_more (λ n. keys_from n c.loop-turn.found c.loop-turn.cursor) _ c.loop-turn._turn c.loop-turn-test.true c.loop-turn.invariant in
    first_of (search rules, grind (arith, common_steps))

pub returns-in_err-expect : goal.returns-in_err-expect
unfolding keys_from
returns-in_err-expect c =
    let e = one_more (λ n. keys_from n c.loop-turn.found c.loop-turn.cursor) _ c.loop-turn._turn c.loop-turn-test.true c.loop-turn.invariant in
    first_of (search rules, grind (arith, common_steps))

pub loop-turn-preserved : goal.loop-turn-preserved
unfolding keys_from
loop-turn-preserved c =
    let e = one_more (λ n. keys_from n c.loop-turn.found c.loop-turn.cursor) _ c.loop-turn._turn c.loop-turn-test.true c.loop-turn.invariant in
    first_of (search rules, grind (arith, common_steps))

pub returns : goal.returns
unfolding keys_from
returns c =
    let e = no_more (λ n. keys_from n c.loop-turn.found c.loop-turn.cursor) _ c.loop-turn._turn c.loop-turn-test.false c.loop-turn.invariant in
    first_of (search rules, grind (arith, common_steps))
