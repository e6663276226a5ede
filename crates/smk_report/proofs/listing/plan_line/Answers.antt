use Rattle.smk_report.specs.Lines.{plan_line}
use Rattle.smk_report.proofs.Joining.{same_line, plan_from_first}
use Rattle.std.proofs.Common.{◌∙◌}
use Rattle.smk_report.proofs.listing.plan_line.Goals as goal

pub returns : goal.returns
returns c =
    same_line c.of.result c.as_str.result.now (plan_line c.args.states.now)
    (c.as_str.ensures.value
    ∙ c.in_ok-line.ensures
    ∙ plan_from_first c.count_kinds-counts.result.dirty c.count_kinds-counts.result.restored c.count_kinds-counts.result.opened c.count_kinds-counts.result.clean c.args.states.now
    (rw c.as_slice.ensures at c.count_kinds-counts.ensures.dirty)
    (rw c.as_slice.ensures at c.count_kinds-counts.ensures.restored)
    (rw c.as_slice.ensures at c.count_kinds-counts.ensures.opened)
    (rw c.as_slice.ensures at c.count_kinds-counts.ensures.clean))
    c.of.ensures
