use Rattle.std.proofs.Common.{refl, sym}
use Rattle.smk_world.proofs.Devices.{carried_as, carried_then, carried_cut, unused_still}
use Rattle.smk_store.specs.Steps.{unmark_requests}
use Rattle.smk_job.proofs.steps.lose.Goals as goal

pub unmark-requires : goal.unmark-requires
unmark-requires g c = record { unused = unused_still c.args.places.now.marks c.in_ok-drop_each.ensures.acted (λ w at. (c.requires.unused w at).marks) }

pub returns-in_err-drop_each : goal.returns-in_err-drop_each
returns-in_err-drop_each g c = carried_as refl (sym c.from_residual.ensures.0) (carried_cut (unmark_requests c.args.places.now) c.in_err-drop_each.ensures)

pub returns : goal.returns
returns g c = carried_then c.in_ok-drop_each.ensures c.unmark.ensures
