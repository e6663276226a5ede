-- Faults of the parts are none of a sink.
use Rattle.smk_plan_preview.proofs.Sinks as sinks
use Rattle.std.proofs.Common.{◌≡◌, false}
use Rattle.smk_chain.specs.declared.fault.SightFault.{SightFault}
use Rattle.smk_plan.specs.declared.fault.LookFault.{LookFault}
use Rattle.smk_store.specs.declared.fault.StoreFault.{StoreFault}
use Rattle.smk_report.specs.declared.fault.Fault.{Fault}
use Rattle.smk_report.specs.Faults.{of_store}
use Rattle.smk_plan_preview.specs.Faults.{is_sink, of_look, of_sight}

pub store_no_sink : (f : StoreFault) (g : Fault) → g ≡ of_store f → is_sink g ≡ false
store_no_sink f g e = sinks.store_no_sink f g e

pub sight_no_sink : (f : SightFault) (g : Fault) → g ≡ of_sight f → is_sink g ≡ false
sight_no_sink f g e = sinks.sight_no_sink f g e

pub look_no_sink : (f : LookFault) (g : Fault) → g ≡ of_look f → is_sink g ≡ false
look_no_sink f g e = sinks.look_no_sink f g e
