use Rattle.std.proofs.Common.{◌<◌, ◌∙◌, Some, ap, length, sym, subst}
use Rattle.std.specs.BTreeMap.{get_by_text}
use Rattle.std.proofs.lemmas.Option.{slice_get_within}
use Rattle.std.proofs.lemmas.Result.{IfErr-weaker}
use Rattle.smk_plan_live.specs.declared.base.Base.{Base}
use Rattle.smk_plan_live.specs.Live.{LivePlan}
use Rattle.smk_plan_live.specs.Lives.{IsRefusedNow}
use Rattle.smk_plan_live.specs.Carried.{sighted}
use Rattle.smk_plan_live.specs.Steps.{IsChanged}
use Rattle.smk_plan_live.proofs.Installed.{loss_spent, sighted_changed}
use Rattle.smk_plan_live.proofs.live.LivePlan.spent.Goals as goal

pub see-requires : goal.see-requires
see-requires c =
    let p = c.args.self.now in
    let x = c.in-Ok.ensures in
    let l = c.in-Ok.loss in
    record {
      live = c.requires.live;
      within = subst (λ m. m < length p.base.jobs.jobs) (sym x.number) (slice_get_within p.base.jobs.jobs c.in-Some.site.now.job x.job x.is);
      changed = subst (λ m. IsChanged p.settings p.base (sighted m (Some l.sights) p.base) m l.forced) (sym x.number)
          (sighted_changed p c.requires.live c.in-Some.site.now.job l.forced x.forced (Some l.sights));
    }

pub returns-in-Ok-clause-refused : goal.returns-in-Ok-clause-refused
returns-in-Ok-clause-refused c =
    let p = c.args.self.now in
    IfErr-weaker c.see.result _ _
    (λ fault told. λ other.
    subst (λ (b : Base). IsRefusedNow p.settings b fault)
    (loss_spent p c.args.path.now c.in-Some.site.now c.in-Ok.loss
    (sym (ap (λ (q : LivePlan). get_by_text q.base.sites c.args.path.now) c.self.view_is) ∙ sym c.in-Some.ensures) c.in-Ok.ensures) (told other)) c.see.ensures.refused
