use Rattle.std.proofs.Common.{◌≡◌, ◌++◌, map, drop}
use Rattle.smk_parse_print.specs.Writing.{spaced, symbol_of}
use Rattle.smk_parse_print.proofs.spell.symbols.Given as goal

abbrev pub invariant-loop-one : goal.invariant-loop-one
invariant-loop-one l = l.out.items ++ spaced (map symbol_of (drop l.one-index l.lent)) ≡ l.fn.out.items ++ spaced (map symbol_of l.lent)
