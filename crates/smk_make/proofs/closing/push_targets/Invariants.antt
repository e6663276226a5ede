use Rattle.std.proofs.Common.{◌≡◌, ◌++◌, take, string_bytes}
use Rattle.smk_plan_duties.specs.Numbers.{number_at}
use Rattle.smk_make.specs.Closing.{lines_by, is_current}
use Rattle.smk_make.proofs.closing.push_targets.Given as goal

abbrev pub invariant-loop-path : goal.invariant-loop-path
invariant-loop-path l = string_bytes l.text ≡ string_bytes l.initial.text ++ lines_by (λ p. is_current l.after (number_at l.numbers p)) (take l.path-index l.targets)
