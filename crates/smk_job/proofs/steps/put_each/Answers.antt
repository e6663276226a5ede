use Rattle.std.proofs.Common.{refl, sym}
use Rattle.smk_world.specs.Requests.Request.{Settle}
use Rattle.smk_world.proofs.Devices.{carried_as, carried_call, carried_then, carried_cut, unused_still}
use Rattle.smk_store.specs.Steps.{put_requests}
use Rattle.smk_job.proofs.steps.put_each.Goals as goal

pub put_records-requires : goal.put_records-requires
put_records-requires g c = record {
  each = c.requires.each;
  unused = unused_still c.args.places.now.records (carried_call (Settle c.args.places.now.outputs) refl refl c.in_ok-settle.ensures).acted c.requires.unused;
}

pub returns-in_err-settle : goal.returns-in_err-settle
returns-in_err-settle g c =
    carried_as refl (sym c.from_residual.ensures.0)
    (carried_cut (put_requests c.args.places.now c.args.bytes.now) (carried_call (Settle c.args.places.now.outputs) refl refl c.in_err-settle.ensures))

pub returns : goal.returns
returns g c = carried_then (carried_call (Settle c.args.places.now.outputs) refl refl c.in_ok-settle.ensures) c.put_records.ensures
