-- How a call ends: what is left of the world and the children, and of the counts.
use Rattle.std.specs.Prelude.{◌≡◌, ◌⊎◌, Bool, true, false, [], Option, Some, None, Result, Ok, Err, IsSome, is_ok}
use Rattle.smk_world.specs.Calls.{HasCause, Rose}
use Rattle.smk_world.specs.Devices.{Device, Sunk}
use Rattle.smk_report.specs.declared.fault.Fault.{Fault}
use Rattle.smk_cli_entry.specs.Faults.{is_device, is_sink}

-- the fault of an answer
abbrev pub fault_of : {T : Type 0} → Result T Fault → Option Fault
fault_of (Ok t) = None
fault_of (Err f) = Some f

-- a call of the device failed
abbrev pub of_device : Option Fault → Bool
of_device None = false
of_device (Some f) = is_device f

-- a put failed
abbrev pub of_sink : Option Fault → Bool
of_sink None = false
of_sink (Some f) = is_sink f

-- A call ended with this fault, or with none. A fault of the device comes only where one of its calls failed, and one of the sink only where a put failed. But where a call of
-- the device failed no child runs, and what was told is told on.
pub record EndsWith (fault : Option Fault) (old new : Device) (out_old out_new : Sunk) : Type 0 where
  pub device : HasCause old.faults new.faults (of_device fault)
  pub output : HasCause out_old.faults out_new.faults (of_sink fault)
  pub children : (new.running ≡ []) ⊎ Rose old.faults new.faults
  pub stays : (IsSome old.world → IsSome new.world) ⊎ Rose old.faults new.faults

-- So ended what answers this; and unless it has a fault, no put failed.
pub record EndsAs (result : Result (Unit {0}) Fault) (old new : Device) (out_old out_new : Sunk) : Type 0 where
  pub ends : EndsWith (fault_of result) old new out_old out_new
  pub quiet : is_ok result ≡ true → out_new.faults ≡ out_old.faults
