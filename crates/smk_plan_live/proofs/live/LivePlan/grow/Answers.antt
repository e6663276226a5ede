use Rattle.std.proofs.Common.{subst}
use Rattle.smk_plan_live.specs.Changes.{IsGrownBut}
use Rattle.smk_plan_live.specs.Live.{LivePlan}
use Rattle.smk_plan_live.proofs.Grown.{grown_named, grown_refused}
use Rattle.smk_plan_live.proofs.live.LivePlan.grow.Goals as goal

pub stand-requires : goal.stand-requires
stand-requires g c =
    let grown =
    subst (λ (p : LivePlan). IsGrownBut c.args.jobs c.args.store c.args.fresh p.base c.in-Ok.base) c.self.view_is c.in-Ok.ensures.grown in (
      c.type_bounds.sync-Rt,
      (
        c.requires.live,
        (
          c.in-Ok.ensures.sound,
          grown_named c.args.jobs c.args.store c.args.fresh c.args.self.now.base c.in-Ok.base grown,
        ),
      ),
    )

pub returns-in-Ok-clause-refused : goal.returns-in-Ok-clause-refused
returns-in-Ok-clause-refused g c =
    let grown =
    subst (λ (p : LivePlan). IsGrownBut c.args.jobs c.args.store c.args.fresh p.base c.in-Ok.base) c.self.view_is c.in-Ok.ensures.grown in
    grown_refused c.args.self.now.settings c.args.jobs c.args.store c.args.fresh c.args.self.now.base c.in-Ok.base c.stand.result c.in-Ok.ensures.sound
    grown c.stand.ensures.refused
