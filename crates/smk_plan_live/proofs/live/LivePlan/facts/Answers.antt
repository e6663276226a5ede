use Rattle.std.proofs.Common.{ap, ◌∙◌}
use Rattle.smk_plan_live.specs.Kept.{facts_kept}
use Rattle.smk_plan_live.specs.Live.{LivePlan}
use Rattle.smk_plan_live.proofs.Learned.{facts_are}
use Rattle.smk_plan_live.proofs.live.LivePlan.facts.Goals as goal

pub returns-clause-value : goal.returns-clause-value
returns-clause-value c =
    c.in_ok-facts.ensures ∙ ap (λ flags. facts_kept c.self.inside.base flags c.args.job) c.as_slice-forced.ensures
    ∙ ap (λ (p : LivePlan). facts_kept p.base p.flags.forced c.args.job) c.self.view_is

pub returns-clause-now : goal.returns-clause-now
returns-clause-now c = λ live served.
    let p = c.args.self.now in
    c.in_ok-facts.ensures ∙ ap (λ flags. facts_kept c.self.inside.base flags c.args.job) c.as_slice-forced.ensures
    ∙ ap (λ (q : LivePlan). facts_kept q.base q.flags.forced c.args.job) c.self.view_is
    ∙ facts_are p.settings p.base live.sound p.flags.forced (live.flags served).forced c.args.job
