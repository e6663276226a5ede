-- Kinds of faults, by their statuses.
use Rattle.std.proofs.Common.{◌≡◌, refl, Result, Ok, Err}
use Rattle.smk_report.specs.declared.fault.Fault.{Fault}
use Rattle.smk_report.specs.declared.fault.Fault.TheVariants as fault
use Rattle.smk_run.specs.Runs as run
use Rattle.smk_cli_entry.specs.Faults.{is_device, is_sink}
use Rattle.smk_cli_calls.specs.Ends.{fault_of, of_device, of_sink}

pub device_same : (f : Fault) → run.is_device_fault f ≡ is_device f
device_same fault.Device = refl
device_same f = refl

pub output_same : (f : Fault) → run.is_output_fault f ≡ is_sink f
output_same fault.Output = refl
output_same f = refl

pub device_as : {T : Type 0} (r : Result T Fault) → run.is_device r ≡ of_device (fault_of r)
device_as (Ok t) = refl
device_as (Err f) = device_same f

pub output_as : {T : Type 0} (r : Result T Fault) → run.is_output r ≡ of_sink (fault_of r)
output_as (Ok t) = refl
output_as (Err f) = output_same f
