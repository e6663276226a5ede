use Rattle.std.proofs.Common.{ap, subst}
use Rattle.smk_drive_begin.specs.declared.rounds.Round.{Round}
use Rattle.smk_drive_begin.specs.Rounds.{IsToldRound, round_of}
use Rattle.smk_drive_begin.proofs.Calls.{told_round}
use Rattle.smk_drive_begin.proofs.rounds.tell.Goals as goal

pub returns-in-Ok-clause-told : goal.returns-in-Ok-clause-told
returns-in-Ok-clause-told c =
    let e = c.spent-told.ensures in
    subst (λ (r : Round). IsToldRound c.args.flow.now c.args.settings.now c.args.path.now c.args.hub.now.live c.spent-told.new.self r) (ap round_of c.in-Ok.is)
    (told_round c.args.flow.now c.args.settings.now c.args.path.now c.args.hub.now.live c.spent-told.new.self c.spent-told.result c.answer_of.result e.live e.ok e.err
    e.refused c.answer_of.ensures.quiet c.answer_of.ensures.answer)

pub returns-in-Err-clause-told : goal.returns-in-Err-clause-told
returns-in-Err-clause-told c =
    let e = c.spent-told.ensures in
    subst (λ (r : Round). IsToldRound c.args.flow.now c.args.settings.now c.args.path.now c.args.hub.now.live c.spent-told.new.self r) (ap round_of c.in-Err.is)
    (told_round c.args.flow.now c.args.settings.now c.args.path.now c.args.hub.now.live c.spent-told.new.self c.spent-told.result c.answer_of.result e.live e.ok e.err
    e.refused c.answer_of.ensures.quiet c.answer_of.ensures.answer)
