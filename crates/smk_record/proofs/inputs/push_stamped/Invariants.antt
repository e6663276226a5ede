use Rattle.std.proofs.Common.{◌≡◌, ◌++◌, length, drop, string_bytes}
use Rattle.smk_record.specs.Spelling.{stamped_paths}
use Rattle.smk_record.proofs.inputs.push_stamped.Given as goal

abbrev pub invariant-loop-path : goal.invariant-loop-path
invariant-loop-path l = string_bytes l.text ++ stamped_paths (drop (length l.yielded) l.paths) (drop (length l.yielded) l.stamps) ≡ string_bytes l.initial.text ++ stamped_paths l.paths l.stamps
