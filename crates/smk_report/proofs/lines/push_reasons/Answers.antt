use Rattle.std.proofs.Common.{codes}
use Rattle.smk_report.specs.Lines.{reason_word}
use Rattle.smk_report.proofs.Joining.{pushed}
use Rattle.smk_report.proofs.lines.push_reasons.Goals as goal

pub returns-in_ok-push_later-in-Some : goal.returns-in_ok-push_later-in-Some
returns-in_ok-push_later-in-Some c =
    pushed reason_word (codes ", ") _ _ _ c.in-Some.first.now c.in-Some.later.now c.args.reasons.now
    c.in_ok-push_later-in-Some.ensures c.in_ok-push_reason-in-Some.ensures c.in-Some.ensures.cases.0
