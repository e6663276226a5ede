use Rattle.std.proofs.Common.{arith}
use Rattle.smk_choose.proofs.Tried.{first_before, second_before, first_alone, second_alone}
use Rattle.smk_choose.proofs.index.least.Goals as goal

pub returns-then-first-second : goal.returns-then-first-second
returns-then-first-second c =
    first_before c.in-Some-Some.first.now c.in-Some-Some.second.now c.args.one.now c.args.other.now c.in-Some-Some.ones.now c.in-Some-Some.others.now
    c.in-Some-Some.ensures.cases.0 c.in-Some-Some.ensures'.cases.0 c.if-first-second.true

pub returns-else-first-second : goal.returns-else-first-second
returns-else-first-second c =
    second_before c.in-Some-Some.first.now c.in-Some-Some.second.now c.args.one.now c.args.other.now c.in-Some-Some.ones.now c.in-Some-Some.others.now
    c.in-Some-Some.ensures.cases.0 c.in-Some-Some.ensures'.cases.0 (omega (arith, c.if-first-second.false))

pub returns-in-Some-None : goal.returns-in-Some-None
returns-in-Some-None c =
    first_alone c.in-Some-None.first.now c.args.one.now c.args.other.now c.in-Some-None.ones.now c.in-Some-None.ensures.cases.0 c.in-Some-None.ensures'.cases

pub returns-in-None-Some : goal.returns-in-None-Some
returns-in-None-Some c =
    second_alone c.in-None-Some.second.now c.args.one.now c.args.other.now c.in-None-Some.others.now c.in-None-Some.ensures.cases c.in-None-Some.ensures'.cases.0
