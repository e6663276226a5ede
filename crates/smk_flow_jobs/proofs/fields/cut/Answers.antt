use Rattle.std.proofs.Common.{arith}
use Rattle.std.proofs.lemmas.Str.Pattern.{split_parts}
use Rattle.smk_flow_jobs.proofs.FieldTexts.{free}
use Rattle.smk_flow_jobs.proofs.fields.cut.Goals as goal

pub returns-in-Some-clause-lacks : goal.returns-in-Some-clause-lacks
returns-in-Some-clause-lacks c =
    let parts = rw c.in-Some.is at (split_parts 123 c.args.text.now c.split_once.result c.split_once.ensures.cases (omega arith)) in
    free 123 c.in-Some.front.now parts.1

pub returns-in-None-clause-lacks : goal.returns-in-None-clause-lacks
returns-in-None-clause-lacks c = free 123 c.args.text.now (rw c.in-None.is at (split_parts 123 c.args.text.now c.split_once.result c.split_once.ensures.cases (omega arith)))
