use Rattle.std.proofs.Common.{◌≡◌, ◌≤◌, ◌+◌, ◌-◌, drop, length}
use Rattle.std.specs.List.{prefix_len}
use Rattle.smk_eval_files.specs.Reading.{is_word_byte}
use Rattle.smk_eval_files.proofs.sources.word_len.Given as goal

abbrev pub invariant-loop-len : goal.invariant-loop-len
invariant-loop-len l = record {
  within : l.len ≤ length l.z;
  value : l.len + prefix_len is_word_byte (drop l.len l.z) ≡ prefix_len is_word_byte l.z;
}

abbrev pub decreases-loop-len : goal.decreases-loop-len
decreases-loop-len l = length l.z - l.len
