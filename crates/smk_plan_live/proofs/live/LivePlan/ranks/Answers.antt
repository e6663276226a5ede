use Rattle.std.proofs.Common.{◌∙◌, ap}
use Rattle.smk_plan_live.specs.Live.{LivePlan}
use Rattle.smk_plan_live.proofs.live.LivePlan.ranks.Goals as goal

pub returns-clause-now : goal.returns-clause-now
returns-clause-now c = λ live image agrees. c.ranks.ensures ∙ ap (λ (p : LivePlan). p.ranking.last.items) c.self.view_is ∙ live.ranked image agrees
