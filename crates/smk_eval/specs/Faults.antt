-- Answers on a folder, and the faults in them.
use Rattle.std.specs.Prelude.{◌≡◌, Bool, true, false, Result, Ok, Err}
use Rattle.smk_flaws.specs.declared.fault.FileFault.{FileFault}
use Rattle.smk_flaws.specs.declared.fault.EvalFault.{EvalFault}
use Rattle.smk_flaws.specs.declared.fault.LoadFault.{LoadFault}
use Rattle.smk_flaws.specs.declared.fault.LoadFault.TheVariants.{Flawed, Device, OutOfMemory}
use Rattle.smk_flaws.specs.Faults.{of_file, of_eval}

-- a fault of the folder, and not of the device or of memory
abbrev pub is_told : LoadFault → Bool
is_told (Flawed flaw) = true
is_told Device = false
is_told OutOfMemory = false

abbrev pub is_device : LoadFault → Bool
is_device (Flawed flaw) = false
is_device Device = true
is_device OutOfMemory = false

abbrev pub device_failed : {T : Type 0} → Result T LoadFault → Bool
device_failed (Ok t) = false
device_failed (Err fault) = is_device fault

-- the same answer, with the fault of the folder
abbrev pub from_files : {A : Type 0} → Result A FileFault → Result A LoadFault
from_files (Ok a) = Ok a
from_files (Err f) = Err (of_file f)

abbrev pub from_said : {A : Type 0} → Result A EvalFault → Result A LoadFault
from_said (Ok a) = Ok a
from_said (Err f) = Err (of_eval f)

abbrev pub and_then : {A B : Type 0} → Result A LoadFault → (A → Result B LoadFault) → Result B LoadFault
and_then (Ok a) next = next a
and_then (Err f) next = Err f

-- The answer is what is meant, a value or a fault, unless the device failed or memory was short.
abbrev pub Answers : {A : Type 0} → Result A LoadFault → Result A LoadFault → Type 0
Answers meant (Ok a) = meant ≡ Ok a
Answers meant (Err f) = is_told f ≡ true → meant ≡ Err f
