use Rattle.std.proofs.Common.{◌≡◌, ◌||◌, take, true}
use Rattle.std.specs.List.{list_all}
use Rattle.std.specs.Int.{is_in_range}
use Rattle.smk_pattern.specs.Grammar.{is_letter}
use Rattle.smk_flow.proofs.names.are_name_bytes.Given as goal

abbrev pub invariant-loop-byte : goal.invariant-loop-byte
invariant-loop-byte l = list_all (λ c. is_letter c || is_in_range 0x30 0x39 c) (take l.byte-index l.bytes) ≡ true
