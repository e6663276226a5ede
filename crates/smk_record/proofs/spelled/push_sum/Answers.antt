use Rattle.std.proofs.Common.{sym, subst}
use Rattle.std.specs.Str.{IsUtf8}
use Rattle.smk_record.proofs.Digits.{hex_utf8}
use Rattle.smk_record.proofs.spelled.push_sum.Goals as goal

pub unreachable-requires : goal.unreachable-requires
unreachable-requires c = c.in-Err.ensures.cases.0 (subst IsUtf8 (sym c.digits_of-digits.ensures) (hex_utf8 c.args.sum.now.0))
