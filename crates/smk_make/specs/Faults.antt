-- Faults of reporting.
use Rattle.std.specs.Prelude.{◌≡◌, ◌⊎◌, true, false}
use Rattle.smk_report.specs.declared.fault.Fault.{Fault}
use Rattle.smk_report.specs.declared.fault.Fault.TheVariants as fault
use Rattle.smk_run.specs.Runs.{leaves_whole, is_output_fault, is_device_fault}

-- of the sink, or of memory
abbrev pub IsOfReport : Fault → Type 0
IsOfReport f = (f ≡ fault.Output) ⊎ (f ≡ fault.OutOfMemory)

-- of a job that failed: all lines that are due were put, and neither the sink nor the device failed
abbrev pub IsOfJob : Fault → Type 0
IsOfJob f = (leaves_whole f ≡ true) × (is_output_fault f ≡ false) × (is_device_fault f ≡ false)
