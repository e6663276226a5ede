use Rattle.std.proofs.Common.{◌∙◌, ap, length, map, sym, zip}
use Rattle.smk_chain.specs.declared.jobs.Jobs.{Jobs}
use Rattle.smk_laws_turns.specs.Resting.{looked_as}
use Rattle.smk_laws_turns.proofs.Answering.{each_looked}
use Rattle.smk_drive_hub.proofs.Checked.{none_refused}
use Rattle.smk_drive_hub.proofs.learning.check_jobs.Goals as goal

pub returns-then-have_commands-clause-commands : goal.returns-then-have_commands-clause-commands
returns-then-have_commands-clause-commands c =
    none_refused c.args.flow.now c.args.settings.now c.args.live.now (c.have_commands.ensures c.if-have_commands.true)

pub check_commands-requires : goal.check_commands-requires
check_commands-requires c =
    let states = c.as_slice.ensures ∙ c.in_ok-states.ensures in
    let looked = c.in_ok-looked.ensures ∙ (λ i. map looked_as (zip (states i) (c.phases.ensures i))) in
    record { each = ap (λ (js : Jobs). length js.jobs) c.jobs.ensures ∙ each_looked c.args.live.now c.requires.live ∙ sym (ap length looked) }
