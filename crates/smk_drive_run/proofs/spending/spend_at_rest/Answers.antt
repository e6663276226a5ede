use Rattle.std.proofs.Common.{sym, ◌∙◌}
use Rattle.smk_drive_hub.specs.Keeping.{parts_of}
use Rattle.smk_laws_begins.proofs.Nexts.{over_may_spend}
use Rattle.smk_drive_run.proofs.spending.spend_at_rest.Goals as goal

pub spend-requires-clause-late : goal.spend-requires-clause-late
spend-requires-clause-late g c = λ w is.
    over_may_spend c.args.ground.flow.now c.args.ground.settings.now (parts_of c.args.hub.now) w c.requires.over
    (sym c.goes_on.ensures ∙ c.if-not-goes_on.false)
