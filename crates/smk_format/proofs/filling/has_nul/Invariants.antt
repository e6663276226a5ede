use Rattle.std.proofs.Common.{◌≡◌, drop}
use Rattle.smk_format.specs.Commands.{has_nul}
use Rattle.smk_format.proofs.filling.has_nul.Given as goal

abbrev pub invariant-loop-byte : goal.invariant-loop-byte
invariant-loop-byte l = has_nul l.text ≡ has_nul (drop l.byte-index l.text)
