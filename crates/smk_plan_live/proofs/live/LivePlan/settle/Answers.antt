use Rattle.std.proofs.Common.{ap, sym, subst, ◌∙◌}
use Rattle.smk_plan_live.specs.Live.{LivePlan}
use Rattle.smk_plan_live.specs.Steps.{IsAhead, IsNext}
use Rattle.smk_plan_live.proofs.Installed.{installed}
use Rattle.smk_plan_live.proofs.live.LivePlan.settle.Goals as goal

pub next_of-requires : goal.next_of-requires
next_of-requires g c = (c.type_bounds.sync-J, (c.requires.within, (c.requires.ahead.live.made, (c.requires.ahead.live.table, c.requires.ahead))))

pub returns-in-Ok-clause-live : goal.returns-in-Ok-clause-live
returns-in-Ok-clause-live g c =
    let n = c.args.number in
    let forced = c.args.forced in
    let same = c.next_of.ensures.same in
    let p : LivePlan = c.next_of.new.self in
    let ahead : IsAhead p n forced = subst (λ (q : LivePlan). IsAhead q n forced) (sym same) c.requires.ahead in
    let x : IsNext p n forced c.in-Ok.next = subst (λ (q : LivePlan). IsNext q n forced c.in-Ok.next) (sym same) c.in-Ok.ensures.next in
    let e = c.install.ensures in
    installed p n forced ahead c.in-Ok.next.change x.change c.install.new.self c.in-Ok.next.ranked c.in-Ok.next.held c.in-Ok.next.own.items x.targets x.now x.standing
    x.ranked x.own e.base.0 e.base.1 e.plan e.ranks.0 e.ranks.1 e.outputs e.makers e.suspects e.made e.reasons.0 e.reasons.1 e.paths.0 e.paths.1 e.commands.0 e.commands.1

pub returns-in-Ok-clause-ok : goal.returns-in-Ok-clause-ok
returns-in-Ok-clause-ok g c =
    let same = c.next_of.ensures.same in (
      c.install.ensures.base.1 ∙ ap (λ (q : LivePlan). q.settings) same,
      c.install.ensures.base.0 ∙ ap (λ (q : LivePlan). q.base) same,
    )
