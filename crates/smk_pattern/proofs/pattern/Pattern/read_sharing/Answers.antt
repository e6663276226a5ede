use Rattle.smk_pattern.proofs.Grammatical.{pattern_by, none_by}
use Rattle.smk_pattern.proofs.pattern.Pattern.read_sharing.Goals as goal

pub returns-clause-pattern : goal.returns-clause-pattern
returns-clause-pattern c =
    let r = rw c.as_slice.ensures at c.read_written.ensures in
    pattern_by c.args.limits.now c.args.text.now c.read_written.result r.written r.shape r.read

pub returns-clause-no_pattern : goal.returns-clause-no_pattern
returns-clause-no_pattern c = λ e. none_by c.args.limits.now c.args.text.now (c.read_written.ensures.bad_pattern e)

pub returns-clause-bad_constraint : goal.returns-clause-bad_constraint
returns-clause-bad_constraint c = λ name e. (rw c.as_slice.ensures at c.read_written.ensures).bad_constraint name e
