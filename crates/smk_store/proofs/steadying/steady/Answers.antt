use Rattle.std.proofs.Common.{Err, refl, ap}
use Rattle.smk_world.specs.Requests.Request.{Settle}
use Rattle.smk_world.proofs.Devices.{acted_nothing, carried_call}
use Rattle.smk_store.specs.declared.fault.StoreFault.TheVariants.{OutOfMemory}
use Rattle.smk_store.specs.Steadying.{HasTried, all_signs, steady_requests}
use Rattle.smk_store.proofs.steadying.steady.Goals as goal

pub returns-in_default-clause-acted : goal.returns-in_default-clause-acted
returns-in_default-clause-acted g c = acted_nothing g.W.Files.act (HasTried (steady_requests c.args.store.now) (Err OutOfMemory)) _ (λ w. refl)

pub returns-in-Ok-settle-clause-acted : goal.returns-in-Ok-settle-clause-acted
returns-in-Ok-settle-clause-acted g c = (carried_call (Settle (all_signs c.args.store.now)) refl (ap Settle c.in-Ok.ensures) c.in-Ok-settle.ensures).acted

pub returns-clause-acted : goal.returns-clause-acted
returns-clause-acted g c = (carried_call (Settle (all_signs c.args.store.now)) refl (ap Settle c.in-Ok.ensures) c.in-Err.ensures).acted
