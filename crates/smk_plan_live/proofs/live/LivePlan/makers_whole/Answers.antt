use Rattle.std.proofs.Common.{◌∙◌, ap, Bool, List, subst, sym}
use Rattle.smk_plan_live.specs.Live.{LivePlan}
use Rattle.smk_plan_live.specs.Lives.{AreMakersWhole}
use Rattle.smk_plan_live.proofs.live.LivePlan.makers_whole.Goals as goal

pub returns-clause-now : goal.returns-clause-now
returns-clause-now c = λ live served.
    subst (λ (flags : List Bool). AreMakersWhole c.args.self.now.base flags)
    (sym (c.as_slice.ensures ∙ ap (λ (p : LivePlan). p.flags.makers) c.self.view_is)) (live.flags served).makers
