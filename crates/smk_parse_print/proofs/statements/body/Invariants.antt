use Rattle.std.proofs.Common.{◌≡◌, ◌++◌, map, drop}
use Rattle.smk_parse_print.specs.Print as rows
use Rattle.smk_parse_print.specs.Rows.{bytes_of}
use Rattle.smk_parse_print.proofs.statements.body.Given as goal

abbrev pub invariant-loop-form : goal.invariant-loop-form
invariant-loop-form l =
    l.out.items ++ bytes_of (map rows.directive_row (drop l.form-index l.directives)) ≡ l.fn.out.items ++ bytes_of (map rows.directive_row l.directives)
