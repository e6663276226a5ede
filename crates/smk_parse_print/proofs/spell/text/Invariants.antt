use Rattle.std.proofs.Common.{◌≡◌, [], ◌∷◌, ◌++◌, drop}
use Rattle.smk_lex.specs.Spelling.{escaped, quoted}
use Rattle.smk_parse_print.proofs.spell.text.Given as goal

abbrev pub invariant-loop-b : goal.invariant-loop-b
invariant-loop-b l = l.out.items ++ (escaped (drop l.b-index l.value) ++ 34 ∷ []) ≡ l.fn.out.items ++ quoted l.value
