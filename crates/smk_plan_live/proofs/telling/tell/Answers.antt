use Rattle.std.proofs.Common.{List, sym, subst}
use Rattle.smk_plan_states.specs.declared.rows.Own.{Own}
use Rattle.smk_plan_live.specs.Lives.{AreLentNow}
use Rattle.smk_plan_live.proofs.Learned.{still_more}
use Rattle.smk_plan_live.proofs.telling.tell.Goals as goal

pub returns-in-Ok-tell_by-clause-ranked : goal.returns-in-Ok-tell_by-clause-ranked
returns-in-Ok-tell_by-clause-ranked g c = λ follows given.
    c.in-Ok-tell_by.ensures.ranked follows
    (λ served.
    subst (λ (own : List Own). AreLentNow c.args.settings.now c.args.base.now c.args.outputs.now c.args.makers.now own c.args.suspects.now)
    (sym c.as_slice-in-loop-turn.ensures.value) (given served))

pub returns-in-Ok-tell_by-clause-now : goal.returns-in-Ok-tell_by-clause-now
returns-in-Ok-tell_by-clause-now g c = λ follows given.
    c.in-Ok-tell_by.ensures.now follows
    (λ served.
    subst (λ (own : List Own). AreLentNow c.args.settings.now c.args.base.now c.args.outputs.now c.args.makers.now own c.args.suspects.now)
    (sym c.as_slice-in-loop-turn.ensures.value) (given served))

pub returns-then-is_err-clause-fits : goal.returns-then-is_err-clause-fits
returns-then-is_err-clause-fits g c =
    still_more c.args.base.now c.args.forced.now c.args.own.now.items c.loop-turn.own.items c.learn_with.new.own.items c.loop-turn.invariant c.learn_with.ensures

pub loop-turn-preserved : goal.loop-turn-preserved
loop-turn-preserved g c =
    still_more c.args.base.now c.args.forced.now c.args.own.now.items c.loop-turn.own.items c.learn_with.new.own.items c.loop-turn.invariant c.learn_with.ensures

pub returns-clause-fits : goal.returns-clause-fits
returns-clause-fits g c = c.loop-turn.invariant
