use Rattle.std.proofs.Common.{◌∙◌, [], None, ap, false, sym}
use Rattle.std.specs.Prelude.{slice_index_or}
use Rattle.std.specs.List.{slice_get}
use Rattle.smk_plan_live.specs.Kept.{own_by, told_by_flags}
use Rattle.smk_plan_live.specs.Live.{LivePlan}
use Rattle.smk_plan_live.proofs.live.LivePlan.state.Goals as goal

pub returns : goal.returns
returns c =
    let r = c.self.inside in
    let n = c.args.job in
    c.in_ok-state.ensures (told_by_flags r.base r.flags.outputs r.flags.makers r.flags.forced)
    (sym
    (c.as_slice-3.ensures ∙ c.in_ok-own.ensures
    ∙ ap (λ (q : LivePlan). slice_index_or (own_by q.base q.base.jobs.jobs q.flags.forced) n []) (sym c.self.view_is)))
    (sym (c.is_forced-forced.ensures ∙ ap (λ flags. slice_index_or flags n false) c.as_slice.ensures))
    (sym (c.began_at-begun.ensures ∙ ap (λ began. slice_index_or began n None) c.as_slice-2.ensures))
    ∙ ap (λ (q : LivePlan). slice_get q.plan.states n) c.self.view_is
