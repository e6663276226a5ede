use Rattle.std.proofs.Common.{◌≡◌, ◌++◌, take}
use Rattle.smk_world_mem.specs.Act.{spaced}
use Rattle.smk_world_mem.proofs.command.push_spaced.Given as goal

abbrev pub invariant-loop-word : goal.invariant-loop-word
invariant-loop-word l = l.bytes.items ≡ l.fn.bytes.items ++ spaced (take l.word-index l.words)
