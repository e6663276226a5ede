use Rattle.std.proofs.Common.{[]}
use Rattle.smk_parse_expr.specs.Printing.{printed_items}
use Rattle.smk_parse_expr.proofs.OnlyItems.{items-only, items-one}
use Rattle.smk_parse_expr.proofs.FoundItems.{items-found}
use Rattle.smk_parse_expr.proofs.Prints.{items-printed}
use Rattle.smk_parse_expr.proofs.Judged.{items-judged}
use Rattle.smk_parse_expr.proofs.laws.item_laws.Goals as goal

pub returns-clause-found : goal.returns-clause-found
returns-clause-found c = λ i rest es l h. items-found i rest es l h

pub returns-clause-only : goal.returns-clause-only
returns-clause-only c = λ xs rest es h stop. items-only xs rest es h stop

pub returns-clause-printed : goal.returns-clause-printed
returns-clause-printed c = λ i rest more es l h stop. let f = items-found i rest es l h in items-only (printed_items es) more es (items-printed [] es f.0 f.2) stop

pub returns-clause-judged : goal.returns-clause-judged
returns-clause-judged c = λ i. items-judged i

pub returns-clause-one : goal.returns-clause-one
returns-clause-one c = λ xs es others h k. items-one xs es others h k
