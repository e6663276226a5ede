use Rattle.smk_choose.proofs.Kept.{merge_more}
use Rattle.smk_choose.proofs.index.merged.Goals as goal

pub numbers-preserved : goal.numbers-preserved
numbers-preserved c =
    merge_more c.args.one.now c.args.other.now c.numbers.made c.numbers.left.now c.numbers.right.now c.in-Some.number c.in-Some.ones.now c.in-Some.others.now c.add_number.new.numbers
    c.numbers.invariant c.in-Some.ensures c.in_ok-add_number.ensures
