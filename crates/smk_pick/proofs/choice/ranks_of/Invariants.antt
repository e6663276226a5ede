use Rattle.std.proofs.Common.{◌≡◌, ◌++◌, drop}
use Rattle.smk_pick.specs.Picks.{ranks_from}
use Rattle.smk_pick.proofs.choice.ranks_of.Given as goal

abbrev pub invariant-loop-i : goal.invariant-loop-i
invariant-loop-i l = l.ranks.items ++ ranks_from l.i (drop l.i l.asks) ≡ ranks_from 0 l.asks
