use Rattle.std.proofs.Common.{refl, sym, ◌∙◌}
use Rattle.smk_run.specs.Duties.{serial_of}
use Rattle.smk_make.specs.Making.{NoMemory}
use Rattle.smk_make.proofs.Good.{good_dues, same_length}
use Rattle.smk_make.proofs.Made.{goes_made}
use Rattle.smk_make.proofs.making.serve.Goals as goal

pub returns-in_default : goal.returns-in_default
returns-in_default g c = NoMemory tt refl refl refl

pub run-requires-clause-runnable : goal.run-requires-clause-runnable
run-requires-clause-runnable g c = λ κs within. c.requires.fit.runnable

pub run-requires-clause-lower : goal.run-requires-clause-lower
run-requires-clause-lower g c = λ κs within. c.requires.fit.lower

pub run-requires-clause-each : goal.run-requires-clause-each
run-requires-clause-each g c = λ κs within. same_length c.args.plan.now.states.now c.in-Ok.duties c.in-Ok.ensures.states ∙ c.requires.fit.states ∙ sym c.requires.fit.befores

pub run-requires-clause-good : goal.run-requires-clause-good
run-requires-clause-good g c = λ κs within.
    good_dues c.args.flow.now c.args.cores (serial_of c.next_serial-first.result c.in-Ok.duties) c.args.plan.now.states.now c.in-Ok.duties c.args.plan.now.jobs.now.jobs c.in-Ok.ensures.states c.requires.fit.commands

pub returns : goal.returns
returns g c =
    goes_made g.W.Files.act c.args.flow.now c.args.cores c.args.targets.now c.args.plan.now.jobs.now c.next_serial-first.result c.in-Ok.duties c.run.result _ _ _ _ c.args.plan.now.states.now c.args.plan.now.store.now
    c.next_serial-first.ensures c.in-Ok.ensures.states (λ image settings ran asked stored planned. c.in-Ok.ensures.told image settings ran asked stored c.next_serial-first.ensures planned) c.run.ensures
