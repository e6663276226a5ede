use Rattle.std.proofs.Common.{refl, sym, ◌∙◌, arith, None, Some, false, true≢false}
use Rattle.smk_drive_hub.specs.Keeping.{parts_of}
use Rattle.smk_laws_begins.proofs.Going.{goes_once}
use Rattle.smk_laws_begins.proofs.Nexts.{over_has_none_left}
use Rattle.smk_laws_begins.proofs.Standing.{ready_on}
use Rattle.smk_laws_begins.proofs.Stepping.{below_limit, waited_step}
use Rattle.smk_drive_run.proofs.Steps.{steps_and_stays}
use Rattle.smk_drive_run.proofs.looping.attend.Goals as goal

pub wait-requires-clause-none_left : goal.wait-requires-clause-none_left
wait-requires-clause-none_left g c = λ κs within w is. over_has_none_left c.args.ground.flow.now c.args.ground.settings.now (parts_of c.args.hub.now) w c.requires.over

pub wait-requires-clause-done : goal.wait-requires-clause-done
wait-requires-clause-done g c = λ κs within. below_limit c.args.hub.now.tally.done 4611686018427387904 18446744073709551615 c.requires.within.done (omega arith)

pub wait-requires-clause-failed : goal.wait-requires-clause-failed
wait-requires-clause-failed g c = λ κs within. below_limit c.args.hub.now.tally.failed 4611686018427387904 18446744073709551615 c.requires.within.failed (omega arith)

pub spend_once_started-requires : goal.spend_once_started-requires
spend_once_started-requires g c =
    record { ready = ready_on _ _ _ _ _ _ _ _ _ _ c.requires.ready (goes_once _ _ _ _ _ _ _ _ _ _ c.wait.ensures.turned) }

pub returns-then-not-wait : goal.returns-then-not-wait
returns-then-not-wait g c =
    waited_step _ _ _ _ _ _ _ _ _ c.wait.result c.requires.ready c.wait.ensures.turned c.wait.ensures.less (Some false)
    (λ e. absurd (true≢false (sym e ∙ c.if-not-wait.true))) (λ e. refl)

pub returns : goal.returns
returns g c =
    steps_and_stays
    (waited_step _ _ _ _ _ _ _ _ _ c.wait.result c.requires.ready c.wait.ensures.turned c.wait.ensures.less None (λ e. refl)
    (λ e. absurd (true≢false (sym c.if-not-wait.false ∙ e)))) c.spend_once_started.ensures
