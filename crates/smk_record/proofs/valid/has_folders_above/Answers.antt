use Rattle.std.proofs.Common.{sym, arith}
use Rattle.smk_record.specs.Records.{is_member_folder}
use Rattle.smk_record.proofs.Above.{all_above, one_not_above}
use Rattle.smk_record.proofs.valid.has_folders_above.Goals as goal

pub returns-then-not-is_member_folder : goal.returns-then-not-is_member_folder
returns-then-not-is_member_folder c =
    sym (one_not_above (is_member_folder c.args.members.now) c.args.name.now c.loop-i.i c.loop-i-test.true c.if-b-eq47.true (sym c.if-not-is_member_folder.ensures))

pub returns : goal.returns
returns c = sym (all_above (is_member_folder c.args.members.now) c.args.name.now (λ k lt e. c.loop-i.invariant k (omega arith) e))
