use Rattle.std.proofs.Common.{◌∷◌, []}
use Rattle.smk_parse_expr.specs.declared.symbol.Symbol.TheVariants as s
use Rattle.smk_parse_expr.specs.declared.symbol.Sign.TheVariants.{Colon}
use Rattle.smk_parse_print.specs.Print as rows
use Rattle.smk_parse_print.proofs.Spaced.{two}
use Rattle.smk_parse_print.proofs.Rowed.{row-ends}
use Rattle.smk_parse_print.proofs.statements.names_row.Goals as goal

pub returns : goal.returns
returns c =
    let listed = rows.names_between c.args.sign c.args.listed.now in
    row-ends c.args.word.now c.args.out.now.items c.symbol.new.out.items c.names.new.out.items c.push.new.self.items (s.Sign 0 Colon ∷ listed) c.in_ok-symbol.ensures
    (two c.symbol.new.out.items c.symbols.new.out.items c.names.new.out.items (s.Sign 0 Colon ∷ []) listed c.in_ok-symbols.ensures c.in_ok-names.ensures) c.in_ok-push.ensures.items
