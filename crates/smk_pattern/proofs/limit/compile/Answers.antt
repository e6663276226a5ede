use Rattle.smk_pattern.proofs.Meaning.{is_regex, is_no_regex}
use Rattle.smk_pattern.proofs.limit.compile.Goals as goal

pub returns-in-Ok-clause-is_regex : goal.returns-in-Ok-clause-is_regex
returns-in-Ok-clause-is_regex c = let e = c.in-Ok.ensures in is_regex _ c.in-Ok.regex e.source e.config e.read

pub returns-in-Err-Syntax-clause-no_regex : goal.returns-in-Err-Syntax-clause-no_regex
returns-in-Err-Syntax-clause-no_regex c = λ _.
    let e = c.in-Err-Syntax.ensures in
    is_no_regex _ _ (e.by_grammar _ c.in-Err-Syntax.field-0-is) (rw c.in-Err-Syntax.field-0-is at e.kind)
