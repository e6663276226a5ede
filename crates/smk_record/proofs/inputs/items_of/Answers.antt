use Rattle.std.proofs.lemmas.Result.{err_from_is_err_and}
use Rattle.smk_record.specs.Reading.{each_in, item_in, all}
use Rattle.smk_record.proofs.Loop.{each_goes_on, each_ends, each_is_done}
use Rattle.smk_record.proofs.inputs.items_of.Goals as goal

pub returns-in_err-item : goal.returns-in_err-item
returns-in_err-item c =
    let p = err_from_is_err_and c.from_residual.result c.from_residual.ensures.1 in
    rw (p.1, p.2) (each_ends all item_in c.in_err-item.field-0.0 c.loop.items c.loop.stamps c.args.count c.loop.counter c.loop.rest.now (each_in all item_in c.args.count c.args.bytes.now) c.loop-test.true c.in_err-item.ensures c.loop.invariant)

pub loop-preserved : goal.loop-preserved
loop-preserved c =
    rw (c.in_ok-push.ensures.ok, c.in_ok-append.ensures, c.as_slice.ensures)
    (each_goes_on all item_in c.loop.items c.loop.stamps c.args.count c.loop.counter c.loop.rest.now c.in_ok-item.item c.in_ok-item.more c.in_ok-item.after.now (each_in all item_in c.args.count c.args.bytes.now) c.loop-test.true c.in_ok-item.ensures c.loop.invariant)

pub returns : goal.returns
returns c = each_is_done all item_in c.loop.items c.loop.stamps c.args.count c.loop.counter c.loop.rest.now (each_in all item_in c.args.count c.args.bytes.now) c.loop-test.false c.loop.invariant
