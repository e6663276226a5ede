use Rattle.std.proofs.Common.{◌≡◌, ◌++◌, string_bytes, take}
use Rattle.std.specs.List.{flat_map}
use Rattle.smk_record.specs.Spelling.{num, pair}
use Rattle.smk_chain_walk.proofs.keys.key_of.Given as goal

abbrev pub invariant-loop-bound : goal.invariant-loop-bound
invariant-loop-bound l = string_bytes l.made ≡ num l.rule ++ flat_map pair (take l.bound-index l.bound-items)
