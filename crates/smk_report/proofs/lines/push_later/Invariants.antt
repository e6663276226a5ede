use Rattle.std.proofs.Common.{◌≡◌, ◌++◌, take, string_bytes, codes}
use Rattle.smk_report.specs.Lines.{later, reason_word}
use Rattle.smk_report.proofs.lines.push_later.Given as goal

abbrev pub invariant-loop-reason : goal.invariant-loop-reason
invariant-loop-reason l = string_bytes l.text ≡ string_bytes l.initial.text ++ later reason_word (codes ", ") (take l.reason-index l.reasons)
