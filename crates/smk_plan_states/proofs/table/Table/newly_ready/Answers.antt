use Rattle.std.proofs.Common.{◌∙◌}
use Rattle.smk_plan_states.proofs.Awaiting.{new_by_ranks}
use Rattle.smk_plan_states.proofs.table.Table.newly_ready.Goals as goal

pub returns : goal.returns
returns c = λ at jobs states told rows ranked each.
    c.in_ok-found.ensures
    ∙ new_by_ranks at jobs c.args.self.now c.args.rows.now states told rows each c.as_slice.result.now c.as_slice.ensures c.args.ranks.now ranked c.as_slice-2.result.now
    c.as_slice-2.ensures
