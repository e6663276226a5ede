use Rattle.std.proofs.Common.{◌≡◌, ◌++◌, drop}
use Rattle.smk_parse_print.specs.Print as rows
use Rattle.smk_parse_print.specs.Rows.{bytes_of}
use Rattle.smk_parse_print.proofs.statements.statements.Given as goal

abbrev pub invariant-loop-one : goal.invariant-loop-one
invariant-loop-one l = l.out.items ++ bytes_of (rows.rows_of (drop l.one-index l.all)) ≡ l.fn.out.items ++ bytes_of (rows.rows_of l.all)
