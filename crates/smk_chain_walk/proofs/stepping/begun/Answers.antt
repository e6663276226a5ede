use Rattle.std.proofs.Common.{subst, option_map}
use Rattle.smk_choose.specs.Told.{told_by}
use Rattle.smk_chain_walk.specs.Stepping.{IsPermitted}
use Rattle.smk_chain_walk.proofs.stepping.begun.Goals as goal

pub returns-clause-begun : goal.returns-clause-begun
returns-clause-begun c =
    let flow = c.args.flow.now in
    let sources = told_by c.args.sources.now in
    let L = c.args.lists.now in
    let p = c.args.path.now in
    let q = subst (λ o. IsPermitted flow sources L p (option_map (λ m. m.now) o)) c.in-Some.is c.in_ok-making.ensures.permitted in
    let w = c.in_ok-wants.ensures.wants p q.0 q.1 q.2 in
    record { candidate = q.0; chosen = q.1; is = q.2; calm = q.3; wants = w.0; inner = w.1 }
