use Rattle.std.proofs.Common.{◌∙◌}
use Rattle.smk_record.specs.Records.{record_of, is_valid}
use Rattle.smk_job.proofs.Unlisted.{unless_so}
use Rattle.smk_job.proofs.folders.sight_of.Goals as goal

pub returns-in-None : goal.returns-in-None
returns-in-None c =
    let stamps = c.in_ok-copy_stamps.ensures ∙ c.as_slice.ensures in
    unless_so _ _ _ c.in-None.ensures.valid.1
    (λ i. is_valid (record_of (c.in_ok-copy.ensures i) c.args.ready.now.made (c.in_ok-copied.ensures i) (stamps i) c.args.members))
