use Rattle.std.proofs.Common.{◌≡◌, ◌≤◌, drop}
use Rattle.smk_choose.proofs.Preferred.{closes_in}
use Rattle.smk_choose.proofs.precedence.has_wildcards.Given as goal

abbrev pub invariant-loop-byte : goal.invariant-loop-byte
invariant-loop-byte l = record {
  within : l.depth ≤ l.byte-index;
  rest : closes_in 0 l.text ≡ closes_in l.depth (drop l.byte-index l.text);
}
