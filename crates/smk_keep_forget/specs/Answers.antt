-- What `--cleanup-metadata` answers.
use Rattle.std.specs.Prelude.{ℕ, Bool, true, false, Result, Ok, Err}
use Rattle.smk_store.specs.declared.fault.StoreFault.{StoreFault}
use Rattle.smk_store.specs.declared.fault.StoreFault.TheVariants as store
use Rattle.smk_report.specs.declared.fault.Fault.{Fault}
use Rattle.smk_report.specs.declared.fault.Fault.TheVariants as fault
use Rattle.smk_report.specs.Faults.{fault_status}
use Rattle.smk_keep_forget.specs.declared.fault.ForgetFault.{ForgetFault}
use Rattle.smk_keep_forget.specs.declared.fault.ForgetFault.TheVariants.{Locked, StampSeen, Device, Output, OutOfMemory}

-- the fault that has this one of the store
abbrev pub of_store : StoreFault → ForgetFault
of_store (store.StampSeen p) = StampSeen p
of_store store.Device = Device
of_store store.OutOfMemory = OutOfMemory

-- the fault of a call that has this one
abbrev pub of_forget : ForgetFault → Fault
of_forget Locked = fault.Locked
of_forget (StampSeen p) = fault.StampSeen p
of_forget Device = fault.Device
of_forget Output = fault.Output
of_forget OutOfMemory = fault.OutOfMemory

-- the status of a call with this answer
abbrev pub forget_status : {T : Type 0} → Result T ForgetFault → ℕ
forget_status (Ok t) = 0
forget_status (Err f) = fault_status (of_forget f)

abbrev pub is_device_fault : ForgetFault → Bool
is_device_fault Locked = false
is_device_fault (StampSeen p) = false
is_device_fault Device = true
is_device_fault Output = false
is_device_fault OutOfMemory = false

abbrev pub is_device : {T : Type 0} → Result T ForgetFault → Bool
is_device (Ok t) = false
is_device (Err f) = is_device_fault f

abbrev pub is_output_fault : ForgetFault → Bool
is_output_fault Locked = false
is_output_fault (StampSeen p) = false
is_output_fault Device = false
is_output_fault Output = true
is_output_fault OutOfMemory = false

abbrev pub is_output : {T : Type 0} → Result T ForgetFault → Bool
is_output (Ok t) = false
is_output (Err f) = is_output_fault f

-- a time that was seen before is told
abbrev pub is_stamp_fault : StoreFault → Bool
is_stamp_fault (store.StampSeen p) = true
is_stamp_fault store.Device = false
is_stamp_fault store.OutOfMemory = false

abbrev pub is_stamp : {T : Type 0} → Result T StoreFault → Bool
is_stamp (Ok t) = false
is_stamp (Err f) = is_stamp_fault f
