use Rattle.std.proofs.Common.{◌-◌, ◌∙◌, arith, sym}
use Rattle.smk_plan_states.specs.Ranking.{is_upstream}
use Rattle.smk_plan_states.proofs.Still.{any_at}
use Rattle.smk_plan_states.proofs.after.is_any_upstream.Goals as goal

pub returns-then-is_upstream : goal.returns-then-is_upstream
returns-then-is_upstream c = λ h.
    any_at (is_upstream c.args.ranks.now c.args.origins.now) c.args.inputs.now (c.loop-number.number - 1) c.index-inputs-number.result
    (omega (arith, c.loop-number-test.true, c.loop-number.auto.number)) c.index-inputs-number.is (sym c.is_upstream.ensures ∙ c.if-is_upstream.true)
