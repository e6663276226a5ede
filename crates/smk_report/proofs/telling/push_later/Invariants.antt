use Rattle.std.proofs.Common.{◌≡◌, ◌++◌, take, string_bytes, codes}
use Rattle.smk_report.specs.Lines.{later}
use Rattle.smk_report.proofs.telling.push_later.Given as goal

abbrev pub invariant-loop-path : goal.invariant-loop-path
invariant-loop-path l = string_bytes l.text ≡ string_bytes l.initial.text ++ later (λ path. path) (codes " ") (take l.path-index l.paths)
