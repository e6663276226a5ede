use Rattle.std.proofs.Common.{sym, subst, ap, ◌∙◌, ◌++◌}
use Rattle.smk_world_crash.specs.Crash.{LeadTo, puts}
use Rattle.smk_world_crash.proofs.Leading.{led}
use Rattle.smk_world_crash.proofs.crash.led_to.Goals as goal

pub returns-clause-steps : goal.returns-clause-steps
returns-clause-steps c = λ whole only.
    let nodes = c.args.nodes in
    let names = c.args.names.now in
    let own = c.has_own-own.result in
    subst (λ ss. LeadTo ss nodes) (sym (c.in_ok-whole.ensures whole ∙ ap (λ ss. ss ++ puts own nodes names) c.in_ok-steps.ensures))
    (led own nodes names (c.are_in_folders.ensures c.if-not-are_in_folders.false) (λ is. (c.has_own-own.ensures.own is, c.has_own-own.ensures.engine is)) only)
