use Rattle.std.proofs.Common.{◌∙◌, drop, length, sym}
use Rattle.smk_plan_states.proofs.ByState.{no_flags, no_less, no_rows}
use Rattle.smk_plan_states.proofs.holding.may_be_held.Goals as goal

pub returns-in_default : goal.returns-in_default
returns-in_default c =
    sym
    (c.loop-i.invariant
    ∙ no_flags c.args.ranks.now c.args.used.now (drop c.loop-i.i c.args.outputs.now) c.loop-i.i (no_less c.loop-i.i (length c.args.used.now) c.in_default.ensures.lookup.0))

pub returns-in_default-get : goal.returns-in_default-get
returns-in_default-get c =
    sym
    (c.loop-i.invariant
    ∙ no_rows c.args.ranks.now c.args.used.now c.args.outputs.now c.loop-i.i (no_less c.loop-i.i (length c.args.outputs.now) c.in_default-get.ensures.lookup.0))
