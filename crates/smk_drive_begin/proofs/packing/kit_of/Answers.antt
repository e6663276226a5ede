use Rattle.std.proofs.Common.{◌∙◌, ap, not, sym}
use Rattle.smk_drive_hub.specs.Keeping.{parts_of}
use Rattle.smk_drive_begin.proofs.Made.{serial_unfit}
use Rattle.smk_drive_begin.proofs.packing.kit_of.Goals as goal

pub returns-in-Err-serial_of-clause-err : goal.returns-in-Err-serial_of-clause-err
returns-in-Err-serial_of-clause-err c =
    serial_unfit (parts_of c.args.hub.now) c.args.number (not c.in-Ok.restored) c.in-Some.path.now c.in-Err-serial_of.fault (ap not c.in-Ok.ensures)
    (sym c.serial_of.ensures ∙ c.in-Err-serial_of.is)
