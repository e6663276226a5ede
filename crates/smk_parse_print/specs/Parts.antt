-- What is printed of the parts of an expression that are no expressions.
use Rattle.std.specs.Prelude.{List}
use Rattle.smk_parse_tree.specs.declared.syntax.ExpandForm.{ExpandForm}
use Rattle.smk_parse_tree.specs.declared.syntax.ItemForm.{ItemForm}
use Rattle.smk_parse_tree.specs.declared.syntax.Expr.TheFolds as folds
use Rattle.smk_parse_expr.specs.declared.symbol.Symbol.{Symbol}
use Rattle.smk_parse_expr.specs.Printing.{Printed, PrintedItem, expr_step, expand_step, item_step}

abbrev pub printed_form : ExpandForm → List Symbol
printed_form = folds.fold-ExpandForm Printed (List Symbol) PrintedItem expr_step expand_step item_step

abbrev pub printed_part : ItemForm → PrintedItem
printed_part = folds.fold-ItemForm Printed (List Symbol) PrintedItem expr_step expand_step item_step
