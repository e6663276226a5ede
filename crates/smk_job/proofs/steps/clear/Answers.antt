use Rattle.std.proofs.Common.{refl, sym}
use Rattle.smk_world.proofs.Devices.{carried_as, carried_then, carried_cut}
use Rattle.smk_job.specs.Jobs.{parents_each}
use Rattle.smk_job.proofs.steps.clear.Goals as goal

pub returns-in_err-remove_each : goal.returns-in_err-remove_each
returns-in_err-remove_each g c = carried_as refl (sym c.from_residual.ensures.0) (carried_cut (parents_each c.args.owned.now) c.in_err-remove_each.ensures)

pub returns : goal.returns
returns g c = carried_then c.in_ok-remove_each.ensures c.parents_each.ensures
