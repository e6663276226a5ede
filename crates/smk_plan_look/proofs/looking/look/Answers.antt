use Rattle.std.proofs.Common.{ap, ◌∙◌}
use Rattle.smk_world.specs.Calls.{device_failed}
use Rattle.smk_world.proofs.Devices.{looked_as}
use Rattle.smk_plan.specs.declared.seen.Seen.{Seen}
use Rattle.smk_plan_look.proofs.Found.{failed_as}
use Rattle.smk_plan_look.proofs.looking.look.Goals as goal

pub returns-in-Err-clause-looked : goal.returns-in-Err-clause-looked
returns-in-Err-clause-looked g c = looked_as (ap device_failed c.in-Err.is ∙ failed_as Seen Seen c.in-Err.fault _ c.fault_of.ensures) c.look_at.ensures.looked
