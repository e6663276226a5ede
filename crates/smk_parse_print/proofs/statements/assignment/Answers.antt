use Rattle.std.proofs.Common.{◌∷◌, []}
use Rattle.smk_parse_expr.specs.declared.symbol.Symbol.TheVariants as s
use Rattle.smk_parse_expr.specs.declared.symbol.Sign.TheVariants.{Equals}
use Rattle.smk_parse_expr.specs.Printing as print
use Rattle.smk_parse_print.proofs.Spaced.{two}
use Rattle.smk_parse_print.proofs.Rowed.{row-ends}
use Rattle.smk_parse_print.proofs.statements.assignment.Goals as goal

pub returns : goal.returns
returns c =
    let value = (print.printed c.args.value.now).symbols in
    row-ends c.args.word.now c.args.out.now.items c.symbol.new.out.items c.expr.new.out.items c.push.new.self.items (s.Sign 0 Equals ∷ value) c.in_ok-symbol.ensures
    (two c.symbol.new.out.items c.symbols.new.out.items c.expr.new.out.items (s.Sign 0 Equals ∷ []) value c.in_ok-symbols.ensures c.in_ok-expr.ensures) c.in_ok-push.ensures.items
