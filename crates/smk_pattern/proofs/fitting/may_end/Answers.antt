use Rattle.smk_pattern.specs.Fitting.{filled}
use Rattle.smk_pattern.specs.Pieces.{parts_of}
use Rattle.smk_pattern.proofs.Ends.{ends_with, no_end}
use Rattle.smk_pattern.proofs.fitting.may_end.Goals as goal

pub returns-in-Some-Literal-default : goal.returns-in-Some-Literal-default
returns-in-Some-Literal-default c = λ none values fills.
    let w = c.in-Some-Literal-default in
    no_end c.before_suffix.result c.is_some.result c.args.path.now w.end
    c.is_some.ensures (rw c.as_str.ensures at c.before_suffix.ensures) none (filled (parts_of w.field-0-1.now) values)
    (ends_with c.args.pieces.now w.field-0-1.now w.field-0-0.now w.end c.args.path.now values w.ensures.cases.0 (let x = w.field-0-0-is in let y = w.end-is in cc) fills)
