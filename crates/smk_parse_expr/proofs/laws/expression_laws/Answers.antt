use Rattle.smk_parse_expr.specs.Printing.{printed}
use Rattle.smk_parse_expr.proofs.Only.{expr-only, expr-one}
use Rattle.smk_parse_expr.proofs.Found.{expr-found}
use Rattle.smk_parse_expr.proofs.Prints.{expr-printed}
use Rattle.smk_parse_expr.proofs.Judged.{expr-judged}
use Rattle.smk_parse_expr.proofs.laws.expression_laws.Goals as goal

pub returns-clause-found : goal.returns-clause-found
returns-clause-found c = λ depth i rest x e. expr-found depth i rest x e

pub returns-clause-only : goal.returns-clause-only
returns-clause-only c = λ depth xs rest x h stop. expr-only depth xs rest x h stop

pub returns-clause-printed : goal.returns-clause-printed
returns-clause-printed c = λ depth i rest more x e stop. let f = expr-found depth i rest x e in expr-only depth (printed x).symbols more x (expr-printed depth f.0 x f.2) stop

pub returns-clause-judged : goal.returns-clause-judged
returns-clause-judged c = λ depth i. expr-judged depth i

pub returns-clause-one : goal.returns-clause-one
returns-clause-one c = λ depth xs x y h k. expr-one depth xs x y h k
