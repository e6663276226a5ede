use Rattle.std.proofs.Common.{◌∷◌, []}
use Rattle.std.specs.Prelude.{codes}
use Rattle.smk_parse_expr.specs.declared.symbol.Symbol.TheVariants as s
use Rattle.smk_parse_expr.specs.declared.symbol.Sign.TheVariants.{Colon}
use Rattle.smk_parse_expr.specs.Printing as print
use Rattle.smk_parse_print.proofs.Spaced.{two}
use Rattle.smk_parse_print.proofs.Rowed.{row-ends}
use Rattle.smk_parse_print.proofs.statements.limits.Goals as goal

pub returns : goal.returns
returns c =
    let values = print.printed_items c.args.values.now in
    row-ends (codes "wildcard_constraints") c.args.out.now.items c.symbol.new.out.items c.items.new.out.items c.push.new.self.items (s.Sign 0 Colon ∷ values) c.in_ok-symbol.ensures
    (two c.symbol.new.out.items c.symbols.new.out.items c.items.new.out.items (s.Sign 0 Colon ∷ []) values c.in_ok-symbols.ensures c.in_ok-items.ensures) c.in_ok-push.ensures.items
