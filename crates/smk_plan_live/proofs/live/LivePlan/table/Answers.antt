use Rattle.std.proofs.Common.{subst, sym}
use Rattle.smk_plan_states.specs.Tables.{IsTableOf}
use Rattle.smk_plan_live.specs.Live.{LivePlan}
use Rattle.smk_plan_live.specs.Lives.{IsLive}
use Rattle.smk_plan_live.proofs.live.LivePlan.table.Goals as goal

pub returns-clause-now : goal.returns-clause-now
returns-clause-now c = λ live.
    subst (λ (p : LivePlan). IsTableOf p.base.jobs p.settings.targets c.self.inside.table) c.self.view_is (subst IsLive (sym c.self.view_is) live).table
