use Rattle.std.proofs.Common.{◌∙◌, Bool, sym, ap, refl, bytes_eq, drop}
use Rattle.std.proofs.lemmas.Bool.{and_right, and_left}
use Rattle.smk_choose.proofs.Preferred.{before_step, before_here, before_from}
use Rattle.smk_choose.proofs.precedence.has_before.Goals as goal
use Rattle.smk_choose.proofs.precedence.has_before.Goals.{else-seen-via-then-seen+else-eq, else-seen-via-else-seen}

pub returns-then-eq : goal.returns-then-eq
returns-then-eq c = sym (
    c.loop-name.invariant
    ∙ ap (λ (s : Bool). before_from c.args.a.now c.args.b.now s (drop c.loop-name.name-index c.args.names.now)) c.if-seen.true
    ∙ before_here c.args.a.now c.args.b.now c.args.names.now c.loop-name.name-index c.name-item.result c.loop-name-test.true c.name-item.is
    (ap (bytes_eq c.args.b.now) (sym c.as_str.ensures) ∙ sym c.eq.ensures ∙ c.if-eq.true))

pub loop-name-preserved : goal.loop-name-preserved
loop-name-preserved c = c.loop-name.invariant
    ∙ before_step c.args.a.now c.args.b.now c.loop-name.seen c.args.names.now c.loop-name.name-index c.name-item.result (bytes_eq c.args.b.now c.name-item.result) c.eq-seen.result
    c.loop-name-test.true c.name-item.is refl (c.eq-seen.ensures ∙ ap (bytes_eq c.args.a.now) c.as_str-in-loop-name.ensures)
    (elim c.else-seen.branch [
      | else-seen-via-then-seen+else-eq w ↦ and_right c.loop-name.seen _ (ap (bytes_eq c.args.b.now) (sym w.as_str.ensures) ∙ sym w.eq.ensures ∙ w.if-eq.false)
      | else-seen-via-else-seen w ↦ and_left c.loop-name.seen _ w.if-seen.false
    ])
