use Rattle.std.proofs.Common.{ap, ◌∙◌, ◌++◌}
use Rattle.std.specs.BTreeMap.{get_by_text}
use Rattle.smk_record.specs.Records.{stamped}
use Rattle.smk_trigger.proofs.Differing.{updates_told}
use Rattle.smk_trigger.proofs.updates.push_updates.Goals as goal

pub returns : goal.returns
returns c =
    c.in_ok-push_all.ensures
    ∙ ap (λ l. c.args.found.now ++ l)
    (updates_told (stamped c.args.earlier.now) (get_by_text c.in_ok-recorded.recorded) c.in_ok-recorded.ensures c.as_slice.result.now _ c.args.stamps.now (c.as_slice.ensures ∙ c.in_ok-paths.ensures))
