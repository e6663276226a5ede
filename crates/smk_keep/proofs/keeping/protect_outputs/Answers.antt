use Rattle.std.proofs.Common.{Err, refl, ap, ◌∙◌}
use Rattle.smk_world.proofs.Devices.{acted_nothing, carried_as}
use Rattle.smk_keep.specs.declared.fault.KeepFault.TheVariants.{OutOfMemory}
use Rattle.smk_keep.specs.Keeping.{HasTried, protect_requests}
use Rattle.smk_keep.proofs.keeping.protect_outputs.Goals as goal

pub returns-in_default-clause-acted : goal.returns-in_default-clause-acted
returns-in_default-clause-acted g c = acted_nothing g.W.Files.act (HasTried (protect_requests c.args.outputs.now) (Err OutOfMemory)) _ (λ w. refl)

pub returns-in-Ok-protect_all-clause-acted : goal.returns-in-Ok-protect_all-clause-acted
returns-in-Ok-protect_all-clause-acted g c = (carried_as (ap protect_requests (c.in-Ok.ensures ∙ c.as_slice.ensures)) refl c.in-Ok-protect_all.ensures).acted

pub returns-clause-acted : goal.returns-clause-acted
returns-clause-acted g c = (carried_as (ap protect_requests (c.in-Ok.ensures ∙ c.as_slice.ensures)) refl c.in-Err.ensures).acted
