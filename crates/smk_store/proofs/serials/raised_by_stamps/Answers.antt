use Rattle.std.proofs.Common.{max, ap, ◌∙◌}
use Rattle.std.specs.List.{fold, flat_map}
use Rattle.std.proofs.lemmas.List.{take_all}
use Rattle.smk_record.specs.Records.{serial_in}
use Rattle.smk_store.proofs.Greatest.{greatest_at}
use Rattle.smk_store.proofs.serials.raised_by_stamps.Goals as goal

pub loop-stamp-preserved : goal.loop-stamp-preserved
loop-stamp-preserved c =
    greatest_at serial_in c.args.greatest c.args.stamps.now c.loop-stamp.stamp-index _ c.loop-stamp.raised _ c.loop-stamp-test.true c.loop-stamp.invariant c.raised_by_stamp-raised.ensures

pub returns : goal.returns
returns c = c.loop-stamp.invariant ∙ ap (λ t. fold max c.args.greatest (flat_map serial_in t)) (take_all c.loop-stamp.stamp-index c.args.stamps.now c.loop-stamp-test.false)
