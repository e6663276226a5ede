use Rattle.std.proofs.Common.{Err, ap, sym}
use Rattle.smk_world.specs.declared.event.Found.{Found}
use Rattle.smk_world.specs.Calls.{device_failed}
use Rattle.smk_world.proofs.Devices.{looked_read, looked_as}
use Rattle.smk_eval_files.proofs.Looking.{bytes_read}
use Rattle.smk_eval_files.proofs.reading.read_bytes.Goals as goal

pub returns-in-Ok-read-clause-looked : goal.returns-in-Ok-read-clause-looked
returns-in-Ok-read-clause-looked g c = looked_as (sym c.held.ensures.no_device) (looked_read c.in-Ok-read.ensures)

pub returns-in-Ok-read-clause-told : goal.returns-in-Ok-read-clause-told
returns-in-Ok-read-clause-told g c =
    bytes_read c.in-Ok.place c.args.file.now c.in-Ok-read.found c.held.result c.in-Ok.ensures c.held.ensures.is (g.met.W.Files.sound c.args.work.now) c.requires.none_runs c.in-Ok-read.ensures

pub returns-in-Err-Failed-clause-looked : goal.returns-in-Err-Failed-clause-looked
returns-in-Err-Failed-clause-looked g c = looked_as (ap (λ e. device_failed {T = Found} (Err e)) c.in-Err-Failed.field-0-is) (looked_read c.in-Err-Failed.ensures)

pub returns-clause-looked : goal.returns-clause-looked
returns-clause-looked g c = looked_as (ap (λ e. device_failed {T = Found} (Err e)) c.in-Err-OutOfMemory.field-0-is) (looked_read c.in-Err-OutOfMemory.ensures)
