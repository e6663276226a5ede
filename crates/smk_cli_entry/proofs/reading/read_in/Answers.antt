use Rattle.std.proofs.Common.{refl}
use Rattle.smk_world.proofs.Devices.{looked_as}
use Rattle.smk_cli_entry.proofs.Loads.{carried_device, carried_no_sink, carried_refusal}
use Rattle.smk_cli_entry.proofs.reading.read_in.Goals as goal

pub returns-in_err-flow-clause-looked : goal.returns-in_err-flow-clause-looked
returns-in_err-flow-clause-looked g c = looked_as (carried_device _ _ c.from_residual.ensures.1) c.in_err-flow.ensures.looked

pub returns-in_err-flow-clause-told : goal.returns-in_err-flow-clause-told
returns-in_err-flow-clause-told g c = λ w here. carried_refusal w.nodes c.args.file c.args.sets.now _ _ c.from_residual.ensures.1 (c.in_err-flow.ensures.told w here)

pub returns-in_err-flow-clause-no_sink : goal.returns-in_err-flow-clause-no_sink
returns-in_err-flow-clause-no_sink g c = carried_no_sink _ _ c.from_residual.ensures.1

pub returns-clause-told : goal.returns-clause-told
returns-clause-told g c = λ w here. (refl, c.in_ok-flow.ensures.told w here)
