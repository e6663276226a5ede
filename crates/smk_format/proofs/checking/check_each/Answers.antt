use Rattle.std.proofs.Common.{drop, sym, ◌+◌}
use Rattle.std.specs.List.{zip}
use Rattle.std.proofs.lemmas.Bool.{ltb-true}
use Rattle.smk_format.proofs.Refused.{at_place, both_there, fault_here, fault_later}
use Rattle.smk_format.proofs.checking.check_each.Goals as goal

pub returns-in-Err-clause-not : goal.returns-in-Err-clause-not
returns-in-Err-clause-not c =
    let i = c.loop-number.number in
    let jobs = c.args.jobs.now in
    let states = c.args.states.now in
    fault_here c.args.flow.now c.args.cores (zip jobs states) (zip (drop i jobs) (drop i states)) (zip (drop (i + 1) jobs) (drop (i + 1) states)) c.index-jobs-number.result c.in-Some.state.now c.in-Err.fault
    c.loop-number.invariant
    (both_there jobs (drop (i + 1) jobs) states (drop (i + 1) states) i c.index-jobs-number.result c.in-Some.state.now
    (at_place jobs i c.index-jobs-number.result c.loop-number-test.true c.index-jobs-number.is) (at_place states i c.in-Some.state.now (ltb-true _ _ (sym c.in-Some.ensures.lookup.0)) c.in-Some.ensures.lookup.1))
    c.in-Err.ensures.not

pub loop-number-preserved : goal.loop-number-preserved
loop-number-preserved c =
    let i = c.loop-number.number in
    let jobs = c.args.jobs.now in
    let states = c.args.states.now in
    fault_later c.args.flow.now c.args.cores (zip jobs states) (zip (drop i jobs) (drop i states)) (zip (drop (i + 1) jobs) (drop (i + 1) states)) c.index-jobs-number.result c.in-Some.state.now
    c.loop-number.invariant
    (both_there jobs (drop (i + 1) jobs) states (drop (i + 1) states) i c.index-jobs-number.result c.in-Some.state.now
    (at_place jobs i c.index-jobs-number.result c.loop-number-test.true c.index-jobs-number.is) (at_place states i c.in-Some.state.now (ltb-true _ _ (sym c.in-Some.ensures.lookup.0)) c.in-Some.ensures.lookup.1))
    c.in-Ok.ensures.good
