-- Answers, and the faults in them.
use Rattle.std.specs.Prelude.{◌≡◌, ◌==◌, Bool, true, false, nat_lt, Result, Ok, Err}
use Rattle.smk_report.specs.declared.fault.Fault.{Fault}
use Rattle.smk_report.specs.Faults.{fault_status}

-- a refusal, and not a fault of the device, of a sink or of memory
abbrev pub is_told : Fault → Bool
is_told f = nat_lt (fault_status f) 4

abbrev pub is_device : Fault → Bool
is_device f = fault_status f == 4

abbrev pub is_sink : Fault → Bool
is_sink f = fault_status f == 6

abbrev pub device_failed : {T : Type 0} → Result T Fault → Bool
device_failed (Ok t) = false
device_failed (Err f) = is_device f

abbrev pub and_then : {A B : Type 0} → Result A Fault → (A → Result B Fault) → Result B Fault
and_then (Ok a) next = next a
and_then (Err f) next = Err f

-- The answer is what is meant, a value or a refusal, unless the device failed or memory was short.
abbrev pub Answers : {A : Type 0} → Result A Fault → Result A Fault → Type 0
Answers meant (Ok a) = meant ≡ Ok a
Answers meant (Err f) = is_told f ≡ true → meant ≡ Err f
