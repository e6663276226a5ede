use Rattle.std.proofs.Common.{ℕ, Option, subst}
use Rattle.smk_choose.specs.Told.{told_by}
use Rattle.smk_chain_walk.specs.Heights.{Tells}
use Rattle.smk_chain_walk.proofs.Climbed.{is_flat}
use Rattle.smk_chain_walk.proofs.deep.is_deep.Goals as goal

pub returns-in-Some-clause-is : goal.returns-in-Some-clause-is
returns-in-Some-clause-is c =
    let flow = c.args.query.now.flow.now in
    let sources = told_by c.args.query.now.sources.now in
    let L = c.args.query.now.lists.now in
    is_flat flow sources L c.args.path.now c.in-Some.field-0 (subst (λ (o : Option ℕ). Tells flow sources L 201 c.args.path.now o) c.in-Some.is c.in_ok-climb.ensures.tells)
