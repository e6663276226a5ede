use Rattle.std.proofs.Common.{ap, ◌∙◌}
use Rattle.smk_world.proofs.Devices.{looked_stat, looked_failed}
use Rattle.smk_store.proofs.Looks.{stat_told}
use Rattle.smk_plan_look.specs.Seeing.{is_read_only}
use Rattle.smk_plan_look.proofs.Waiting.{noted_file}
use Rattle.smk_plan_look.proofs.guards.note.Goals as goal

pub returns-in_err-stat-clause-looked : goal.returns-in_err-stat-clause-looked
returns-in_err-stat-clause-looked g c = looked_failed _ c.in_err-stat.was c.from_residual-in_err-stat.ensures.1 (looked_stat c.stat.ensures)

pub returns-clause-looked : goal.returns-clause-looked
returns-clause-looked g c = looked_stat c.in_ok-stat.ensures

pub returns-clause-told : goal.returns-clause-told
returns-clause-told g c = λ w at free.
    noted_file w.nodes c.args.place c.args.folder c.args.waiting.now _ c.if-folder.false
    (c.is_read_only.ensures ∙ ap is_read_only (stat_told w c.stat.ensures c.in_ok-stat.was at free))
