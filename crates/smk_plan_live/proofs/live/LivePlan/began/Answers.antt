use Rattle.std.proofs.Common.{◌≡◌, Some, sym, ap, ◌∙◌}
use Rattle.std.proofs.lemmas.Option.{same_Some, slice_get_within}
use Rattle.std.proofs.lemmas.Result.{IfErr-weaker}
use Rattle.smk_plan_live.specs.declared.phase.Phase.TheVariants.{Running}
use Rattle.smk_plan_live.specs.Carried.{advanced, begun_entries, gone_sights}
use Rattle.smk_plan_live.specs.Lives.{IsRefusedNow}
use Rattle.smk_plan_live.proofs.Installed.{begun_changed}
use Rattle.smk_plan_live.proofs.live.LivePlan.began.Goals as goal

pub advance-requires : goal.advance-requires
advance-requires c =
    let p = c.args.self.now in
    let x = c.in-Ok.ensures in
    let s = c.in-Ok.start in (
      _,
      (
        c.requires.live,
        (
          slice_get_within p.base.jobs.jobs c.args.job x.job x.is,
          begun_changed p c.requires.live c.args.job s.state x.job x.is x.named c.requires.waiting s.rows.entries s.rows.sights,
        ),
      ),
    )

pub returns-in-Ok-clause-refused : goal.returns-in-Ok-clause-refused
returns-in-Ok-clause-refused c =
    let p = c.args.self.now in
    let n = c.args.job in
    let x = c.in-Ok.ensures in
    let s = c.in-Ok.start in
    IfErr-weaker c.advance.result _ _
    (λ fault told. λ other state had j at.
    let its : s.state ≡ state = same_Some s.state state (sym x.had ∙ had) in
    let it : x.job ≡ j = same_Some x.job j (sym x.is ∙ at) in
    let entries = x.entries ∙ ap (begun_entries p.base) it in
    let sights = x.sights ∙ ap gone_sights it in
    coe 0 1 (i. IsRefusedNow p.settings (advanced n Running (Some (its i)) (entries i) (sights i) p.base) fault) (told other)) c.advance.ensures.refused
