-- Which answers tell that the device failed.
use Rattle.std.specs.Prelude.{Bool, true, false, Result, Ok, Err}
use Rattle.smk_store.specs.declared.fault.StoreFault.{StoreFault}
use Rattle.smk_store.specs.declared.fault.StoreFault.TheVariants.{StampSeen, Device, OutOfMemory}

abbrev pub store_failed : {T : Type 0} → Result T StoreFault → Bool
store_failed (Ok t) = false
store_failed (Err (StampSeen p)) = false
store_failed (Err Device) = true
store_failed (Err OutOfMemory) = false
