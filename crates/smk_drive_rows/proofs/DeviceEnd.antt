-- What may be told of the device: a fault of it where a call failed alone.
use Rattle.std.proofs.Common.{List, [], Some, refl}
use Rattle.smk_world.specs.World.{World}
use Rattle.smk_world.specs.Devices.{Device, Sunk}
use Rattle.smk_world.specs.Trees.{Act}
use Rattle.smk_pattern.specs.Shapes.{Text}
use Rattle.smk_report.specs.declared.fault.Fault.TheVariants as fault
use Rattle.smk_cli_target.specs.declared.ending.Outcome.{Outcome}
use Rattle.smk_cli_target.specs.Clauses.{HasLog}

abbrev device_failed : Outcome
device_failed = record { status = 4; fault = Some fault.Device }

-- of a call that has done nothing
pub fails_without_call : (act : Act) (words : List Text) (w : World) (a b : Device) (p q : Sunk) → HasLog act words device_failed a b p q w [] → ⊥
fails_without_call act words w a b p q l = let f = l.device refl in absurd f.1
