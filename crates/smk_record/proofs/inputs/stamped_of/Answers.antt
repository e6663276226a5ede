use Rattle.std.proofs.lemmas.Result.{err_from_is_err_and}
use Rattle.smk_record.specs.Reading.{each_in, stamped_in, alone}
use Rattle.smk_record.proofs.Loop.{each_goes_on, each_ends, each_is_done}
use Rattle.smk_record.proofs.inputs.stamped_of.Goals as goal

pub returns-in_err-path : goal.returns-in_err-path
returns-in_err-path c =
    let p = err_from_is_err_and c.from_residual.result c.from_residual.ensures.1 in
    rw (p.1, p.2) (each_ends alone stamped_in c.in_err-path.field-0.0 c.loop.paths c.loop.stamps c.args.count c.loop.counter c.loop.rest.now (each_in alone stamped_in c.args.count c.args.bytes.now) c.loop-test.true c.in_err-path.ensures c.loop.invariant)

pub loop-preserved : goal.loop-preserved
loop-preserved c =
    rw (c.in_ok-push.ensures.ok, c.in_ok-push-2.ensures.ok)
    (each_goes_on alone stamped_in c.loop.paths c.loop.stamps c.args.count c.loop.counter c.loop.rest.now c.in_ok-path.path c.in_ok-path.stamp c.in_ok-path.after.now (each_in alone stamped_in c.args.count c.args.bytes.now) c.loop-test.true c.in_ok-path.ensures c.loop.invariant)

pub returns : goal.returns
returns c = each_is_done alone stamped_in c.loop.paths c.loop.stamps c.args.count c.loop.counter c.loop.rest.now (each_in alone stamped_in c.args.count c.args.bytes.now) c.loop-test.false c.loop.invariant
