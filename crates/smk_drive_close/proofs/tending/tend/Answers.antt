use Rattle.std.proofs.Common.{Err, None, subst, sym, ◌≡◌, ◌∙◌}
use Rattle.smk_world.specs.Devices.{HasActed}
use Rattle.smk_report.specs.declared.fault.Fault.{Fault}
use Rattle.smk_drive_course.specs.Driven.{device_failed}
use Rattle.smk_laws_turns.specs.Resting.{refused_command}
use Rattle.smk_laws_closes.specs.Tending.{HasTendedOf}
use Rattle.smk_laws_closes.proofs.Knowing.{learnt_then, unguarded, was_halted}
use Rattle.smk_drive_close.proofs.Halting.{always_so, is_halted}
use Rattle.smk_drive_close.proofs.tending.tend.Goals as goal

pub returns-in-Err-clause-acted : goal.returns-in-Err-clause-acted
returns-in-Err-clause-acted g c =
    let act = g.W.Files.act in
    subst
    (λ (f : Fault).
    HasActed act
    (HasTendedOf c.args.flow.now c.args.settings.now c.args.number c.args.good c.args.halt.now.fault c.args.live.now c.args.live.now (Err f))
    (g.W.Files.device c.args.work.now) (g.W.Files.device c.guard.new.work) (device_failed {T = Unit {0}} (Err f)))
    (sym c.keep_fault.ensures)
    (unguarded act c.args.flow.now c.args.settings.now c.args.number c.args.good c.args.halt.now.fault c.args.live.now c.in-Err.why _ _ c.in-Err.ensures)

pub returns-then-not-is_none-clause-acted : goal.returns-then-not-is_none-clause-acted
returns-then-not-is_none-clause-acted g c =
    was_halted g.W.Files.act c.args.flow.now c.args.settings.now c.args.number c.args.good c.args.halt.now.fault c.args.live.now _ _
    (sym c.is_none.ensures ∙ c.if-not-is_none.true) c.in-Ok.ensures

pub returns-clause-acted : goal.returns-clause-acted
returns-clause-acted g c =
    learnt_then g.W.Files.act c.args.flow.now c.args.settings.now c.args.number c.args.good c.args.halt.now.fault c.args.live.now c.learn.new.live c.learn.result _ _ _ _
    (sym c.is_none.ensures ∙ c.if-not-is_none.false) c.learn.ensures.same c.in-Ok.ensures c.learn.ensures.acted

pub returns-then-not-is_none-clause-commands : goal.returns-then-not-is_none-clause-commands
returns-then-not-is_none-clause-commands g c = λ none. absurd (is_halted c.args.halt.now.fault (sym c.is_none.ensures ∙ c.if-not-is_none.true) none)

pub returns-clause-commands : goal.returns-clause-commands
returns-clause-commands g c =
    always_so (refused_command c.args.flow.now c.args.settings.now c.learn.new.live ≡ None) (c.args.halt.now.fault ≡ None) c.learn.result c.learn.ensures.commands
