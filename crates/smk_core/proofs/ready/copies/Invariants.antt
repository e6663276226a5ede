use Rattle.std.proofs.Common.{◌≡◌, take}
use Rattle.smk_core.proofs.ready.copies.Given as goal

abbrev pub invariant-loop-ask : goal.invariant-loop-ask
invariant-loop-ask l = l.made ≡ take l.ask-index l.asks
