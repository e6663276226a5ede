use Rattle.std.proofs.Common.{◌≡◌, ◌++◌, length, drop, string_bytes}
use Rattle.smk_drive_course.specs.Reports.{target_lines}
use Rattle.smk_drive_run.proofs.ending.push_targets.Given as goal

abbrev pub invariant-loop-path : goal.invariant-loop-path
invariant-loop-path l =
    string_bytes l.text ++ target_lines (drop (length l.yielded) l.targets) (drop (length l.yielded) l.current)
    ≡ string_bytes l.initial.text ++ target_lines l.targets l.current
