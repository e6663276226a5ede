use Rattle.std.proofs.Common.{Option, subst}
use Rattle.std.proofs.lemmas.Result.{IfOk-weaker}
use Rattle.smk_plan_states.specs.declared.standing.Last.{Last}
use Rattle.smk_plan_states.specs.Standing.{FollowsBy}
use Rattle.smk_plan_states.specs.Stays.{told_by}
use Rattle.smk_plan_states.proofs.table.Table.rank.Goals as goal

pub returns-in-None-clause-standing : goal.returns-in-None-clause-standing
returns-in-None-clause-standing c =
    IfOk-weaker c.rank_anew.result _ _
    (λ r stands. λ jobs targets table served reasons forced fits follows. stands jobs targets table served reasons forced fits) c.rank_anew.ensures.standing

pub returns-in-Some-clause-standing : goal.returns-in-Some-clause-standing
returns-in-Some-clause-standing c =
    IfOk-weaker c.rank_on.result _ _
    (λ r stands. λ jobs targets table served reasons forced fits follows.
    stands jobs targets table served reasons forced fits
    (subst (λ (l : Option Last). FollowsBy c.args.self.now l (told_by c.args.rows.now reasons forced)) c.in-Some.is follows))
    c.rank_on.ensures.standing
