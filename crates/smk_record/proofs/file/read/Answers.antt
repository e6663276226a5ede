use Rattle.std.proofs.Common.{arith}
use Rattle.smk_record.proofs.Exact.{read_as}
use Rattle.smk_record.proofs.file.read.Goals as goal

pub returns-in-Ok : goal.returns-in-Ok
returns-in-Ok c = read_as c.args.bytes.now _ (omega arith) c.in-Ok.ensures

pub returns-in-Err-Unread : goal.returns-in-Err-Unread
returns-in-Err-Unread c = read_as c.args.bytes.now _ (omega arith) (rw c.in-Err-Unread.field-0-is at c.in-Err-Unread.ensures)
