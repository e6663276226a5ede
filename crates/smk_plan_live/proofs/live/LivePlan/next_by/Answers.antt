use Rattle.std.proofs.Common.{sym, subst}
use Rattle.smk_plan_live.specs.declared.next.Change.{Change}
use Rattle.smk_plan_live.specs.Steps.{IsNext}
use Rattle.smk_plan_live.proofs.live.LivePlan.next_by.Goals as goal

pub returns-in-Ok-clause-next : goal.returns-in-Ok-clause-next
returns-in-Ok-clause-next g c =
    let made = c.in-Ok.ensures in
    subst
    (λ (change : Change).
    IsNext c.args.self.now c.args.number c.args.forced
    (record { change = change; own = c.tell_changed.new.own; ranked = c.in-Ok.made.ranked; held = c.in-Ok.made.held }))
    (sym c.tell_changed.ensures.same.1)
    (record {
      change = c.requires.change;
      own = c.tell_changed.ensures.own;
      targets = made.targets;
      now = made.now;
      standing = made.standing;
      ranked = made.ranked;
    })
