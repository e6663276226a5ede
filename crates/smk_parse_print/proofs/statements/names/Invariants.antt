use Rattle.std.proofs.Common.{◌≡◌, ◌++◌, drop}
use Rattle.std.specs.Prelude.{if◌then◌else◌}
use Rattle.smk_parse_print.specs.Print as rows
use Rattle.smk_parse_print.specs.Writing.{spaced}
use Rattle.smk_parse_print.proofs.statements.names.Given as goal

abbrev pub invariant-loop-name : goal.invariant-loop-name
invariant-loop-name l =
    let rest = drop l.name-index l.names in
    l.out.items ++ spaced (if l.behind then rows.more_names l.sign rest else rows.names_between l.sign rest) ≡ l.fn.out.items ++ spaced (rows.names_between l.sign l.names)
