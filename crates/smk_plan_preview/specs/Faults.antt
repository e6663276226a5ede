-- Faults of the parts of a preview as its own.
use Rattle.std.specs.Prelude.{◌==◌, Bool, false, nat_lt, Result, Ok, Err}
use Rattle.smk_chain.specs.declared.fault.ChainFault.{ChainFault}
use Rattle.smk_chain.specs.declared.fault.ChainFault.TheVariants as chain
use Rattle.smk_chain.specs.declared.fault.SightFault.{SightFault}
use Rattle.smk_chain.specs.declared.fault.SightFault.TheVariants as sight
use Rattle.smk_plan.specs.declared.fault.LookFault.{LookFault}
use Rattle.smk_plan.specs.declared.fault.LookFault.TheVariants as look
use Rattle.smk_report.specs.declared.fault.Fault.{Fault}
use Rattle.smk_report.specs.declared.fault.Fault.TheVariants as fault
use Rattle.smk_report.specs.Faults.{fault_status}

-- a refusal, and not a fault of the device, of a sink or of memory
abbrev pub is_told : Fault → Bool
is_told f = nat_lt (fault_status f) 4

abbrev pub is_device : Fault → Bool
is_device f = fault_status f == 4

abbrev pub is_sink : Fault → Bool
is_sink f = fault_status f == 6

abbrev pub device_failed : {T : Type 0} → Result T Fault → Bool
device_failed (Ok t) = false
device_failed (Err f) = is_device f

-- the same answer, with the fault as this one
abbrev pub as_call : {A F : Type 0} → (F → Fault) → Result A F → Result A Fault
as_call of_fault (Ok a) = Ok a
as_call of_fault (Err f) = Err (of_fault f)

abbrev pub of_sight : SightFault → Fault
of_sight (sight.TooManyPaths count) = fault.TooManyPaths count
of_sight sight.Device = fault.Device
of_sight sight.OutOfMemory = fault.OutOfMemory

abbrev pub of_look : LookFault → Fault
of_look look.Device = fault.Device
of_look look.OutOfMemory = fault.OutOfMemory

abbrev pub of_chain : ChainFault → Fault
of_chain (chain.NoRule p) = fault.NoRule p
of_chain (chain.NoInput p rule wanted) = fault.NoInput p rule wanted
of_chain (chain.Ambiguous p a b) = fault.Ambiguous p a b
of_chain (chain.Deep p) = fault.Deep p
of_chain (chain.Clash p other) = fault.Clash p other
of_chain (chain.MissingMember p) = fault.MissingMember p
of_chain (chain.NoCommand rule) = fault.NoCommand rule
of_chain chain.OutOfMemory = fault.OutOfMemory
