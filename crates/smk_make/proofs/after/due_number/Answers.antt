use Rattle.std.proofs.Common.{subst, sym, ◌∙◌, get_or, arith}
use Rattle.smk_make.proofs.Dues.{IsSeeking, seek_first, seek_on, seek_here, seek_end, duty_there}
use Rattle.smk_make.proofs.after.due_number.Goals as goal

pub loop-number-init : goal.loop-number-init
loop-number-init c = seek_first c.args.duties.now c.args.index

pub returns-in-None : goal.returns-in-None
returns-in-None c =
    seek_here c.args.duties.now c.args.index c.loop-number.number c.loop-number.left (get_or c.args.duties.now c.loop-number.number _) (duty_there c.args.duties.now c.loop-number.number _ c.loop-number-test.true) c.loop-number.invariant
    (sym c.left_after.ensures ∙ c.in-None.is)

pub loop-number-preserved : goal.loop-number-preserved
loop-number-preserved c =
    seek_on c.args.duties.now c.args.index c.loop-number.number c.loop-number.left c.in-Some.rest (get_or c.args.duties.now c.loop-number.number _) (duty_there c.args.duties.now c.loop-number.number _ c.loop-number-test.true) c.loop-number.invariant
    (sym c.left_after.ensures ∙ c.in-Some.is)

pub returns : goal.returns
returns c =
    seek_end c.args.duties.now c.args.index c.loop-number.left
    (subst (λ n. IsSeeking c.args.duties.now c.args.index n c.loop-number.left) (omega (arith, c.loop-number.auto.number-end, c.loop-number-test.false)) c.loop-number.invariant)
