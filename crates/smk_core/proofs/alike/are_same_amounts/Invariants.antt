use Rattle.std.proofs.Common.{◌≡◌, drop}
use Rattle.smk_core.proofs.alike.are_same_amounts.Given as goal

abbrev pub invariant-loop-this : goal.invariant-loop-this
invariant-loop-this l = drop l.this-index l.these ≡ l.rest → l.these ≡ l.others
