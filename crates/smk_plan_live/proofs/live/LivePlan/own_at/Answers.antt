use Rattle.std.proofs.Common.{ap, sym, ◌∙◌}
use Rattle.smk_plan_live.proofs.Learned.{own_index, reasons_or}
use Rattle.smk_plan_live.proofs.live.LivePlan.own_at.Goals as goal

pub returns-in-None : goal.returns-in-None
returns-in-None c =
    let p = c.args.self.now in
    c.new.ensures ∙ ap reasons_or (sym c.in-None.is ∙ c.in_ok-facts.ensures.value) ∙ own_index p.base p.base.jobs.jobs p.flags.forced c.args.job

pub returns-in_ok-own-in-Some : goal.returns-in_ok-own-in-Some
returns-in_ok-own-in-Some c =
    let p = c.args.self.now in
    c.in_ok-own-in-Some.ensures ∙ ap reasons_or (sym c.in-Some.is ∙ c.in_ok-facts.ensures.value)
    ∙ own_index p.base p.base.jobs.jobs p.flags.forced c.args.job
