use Rattle.std.proofs.Common.{inr}
use Rattle.smk_flow_build.proofs.reading.read_limited.Goals as goal

pub returns-in_ok-bad_constraint-in-Err-BadConstraint-clause-unread :
    goal.returns-in_ok-bad_constraint-in-Err-BadConstraint-clause-unread
returns-in_ok-bad_constraint-in-Err-BadConstraint-clause-unread c = λ known.
    let b = c.in-Err-BadConstraint.ensures.bad_constraint c.in-Err-BadConstraint.name (cc) in
    inr (c.in-Err-BadConstraint.name, b.0, b.1, c.in_ok-bad_constraint-in-Err-BadConstraint.ensures)
