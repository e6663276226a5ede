use Rattle.std.proofs.Common.{◌<◌, arith, length}
use Rattle.smk_format.proofs.Digits.{too_great, digits_utf8}
use Rattle.smk_format.proofs.picks.place.Goals as goal

pub returns-in-Err-parse : goal.returns-in-Err-parse
returns-in-Err-parse c =
    let same = c.in-Ok.ensures.cases.0 in
    let some : 0 < length c.args.digits.now = grind (arith, c.is_empty.ensures, c.if-is_empty.false) in
    too_great c.args.digits.now c.in-Err-parse.field-0 c.requires some (rw same at c.in-Err-parse.ensures.value.0)

pub returns-in-Err : goal.returns-in-Err
returns-in-Err c = absurd (c.in-Err.ensures.cases.0 (digits_utf8 c.args.digits.now c.requires))
