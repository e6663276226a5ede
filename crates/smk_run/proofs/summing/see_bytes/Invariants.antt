use Rattle.std.proofs.Common.{◌≡◌, take, true}
use Rattle.std.specs.List.{list_all}
use Rattle.smk_run.specs.Digesting.{is_byte}
use Rattle.smk_run.proofs.summing.see_bytes.Given as goal

abbrev pub invariant-loop-byte : goal.invariant-loop-byte
invariant-loop-byte l = list_all is_byte (take l.byte-index l.bytes) ≡ true
