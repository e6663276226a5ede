use Rattle.std.proofs.Common.{◌<◌, None, subst}
use Rattle.std.proofs.lemmas.Result.{IfErr-weaker}
use Rattle.smk_plan_live.specs.Carried.{advanced}
use Rattle.smk_plan_live.specs.Lives.{IsRefusedNow}
use Rattle.std.proofs.lemmas.Option.{slice_get_within}
use Rattle.smk_plan_live.specs.declared.phase.Phase.TheVariants.{Running, Closed}
use Rattle.smk_plan_live.proofs.Installed.{closed_changed}
use Rattle.smk_plan_live.proofs.live.LivePlan.closed.Goals as goal

pub advance-requires : goal.advance-requires
advance-requires g c =
    let p = c.args.self.now in
    let live = c.requires.runs.live in
    let runs = c.requires.runs.runs in (
      c.type_bounds.sync-J,
      (
        live,
        (
          subst (λ m. c.args.job < m) live.sound.phases (slice_get_within p.base.phases c.args.job Running runs),
          closed_changed p live c.args.job runs c.in-Ok.rows.entries c.in-Ok.rows.sights,
        ),
      ),
    )

pub returns-in-Ok-clause-refused : goal.returns-in-Ok-clause-refused
returns-in-Ok-clause-refused g c =
    let p = c.args.self.now in
    let same = c.in-Ok.ensures in
    IfErr-weaker c.advance.result _ _
    (λ fault told. λ other. coe 0 1 (i. IsRefusedNow p.settings (advanced c.args.job Closed None (same.0 i) (same.1 i) p.base) fault)
    (told other)) c.advance.ensures.refused
