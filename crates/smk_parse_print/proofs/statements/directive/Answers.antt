use Rattle.smk_parse_print.proofs.Rowed.{directive-ends}
use Rattle.smk_parse_print.proofs.statements.directive.Goals as goal

pub returns : goal.returns
returns c =
    directive-ends c.args.form.now c.as_str.result.now c.as_slice.result.now c.args.out.now.items c.extend_from_slice.new.self.items c.symbol.new.out.items c.symbols.new.out.items c.items.new.out.items c.push.new.self.items
    c.as_str.ensures c.as_slice.ensures c.in_ok-extend_from_slice.ensures.items c.in_ok-symbol.ensures c.in_ok-symbols.ensures c.in_ok-items.ensures c.in_ok-push.ensures.items
