use Rattle.std.proofs.Common.{arith}
use Rattle.smk_choose.proofs.Kept.{one_folder, all_folders}
use Rattle.smk_choose.proofs.index.folders_of.Goals as goal

pub loop-number-preserved : goal.loop-number-preserved
loop-number-preserved c =
    one_folder c.args.readings.now c.loop-number.number c.index-readings-number.result c.loop-number.numbers c.add_folder.new.numbers c.loop-number-test.true c.index-readings-number.is
    c.loop-number.invariant c.in_ok-add_folder.ensures

pub returns : goal.returns
returns c = all_folders c.args.readings.now c.loop-number.number c.loop-number.numbers (omega (arith, c.loop-number-test.false)) c.loop-number.invariant
