use Rattle.std.proofs.Common.{subst}
use Rattle.smk_report.specs.Lines.{forgotten_line}
use Rattle.smk_keep_lock.specs.Putting.{Put}
use Rattle.smk_keep_forget.specs.Steps.{IsLineFor}
use Rattle.smk_keep_forget.proofs.Going.{acted_fault, acted_put, known_told, nothing_for}
use Rattle.smk_keep_forget.proofs.turning.forget_turn.Goals as goal

pub returns-in-Ok-clause-acted : goal.returns-in-Ok-clause-acted
returns-in-Ok-clause-acted g c =
    acted_put g.W.Files.act _ _ c.args.done.now c.args.store.now c.forget_next.new.store c.args.p.now c.in-Ok.was_known c.put_forgotten.result c.put_forgotten.ensures.only c.in-Ok.ensures

pub returns-in-Ok-clause-told : goal.returns-in-Ok-clause-told
returns-in-Ok-clause-told g c = λ w at but.
    let p = c.args.p.now in
    subst (λ k. Put (g.O.Sink.sunk c.args.out.now) (g.O.Sink.sunk c.put_forgotten.new.out) (IsLineFor c.put_forgotten.result (forgotten_line k p)))
    (known_told g.W.Files.act _ _ c.args.done.now c.args.store.now c.forget_next.new.store p c.in-Ok.was_known c.in-Ok.ensures w at but) c.put_forgotten.ensures.told

pub returns-in-Err-clause-acted : goal.returns-in-Err-clause-acted
returns-in-Err-clause-acted g c =
    acted_fault g.W.Files.act _ _ c.args.done.now c.args.store.now c.forget_next.new.store c.args.p.now c.in-Err.fault c.from.result c.from.ensures c.in-Err.ensures

pub returns-in-Err-clause-told : goal.returns-in-Err-clause-told
returns-in-Err-clause-told g c = λ w at but. nothing_for c.in-Err.fault c.from.result c.from.ensures (g.O.Sink.sunk c.args.out.now) _
