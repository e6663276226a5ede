use Rattle.std.proofs.Common.{◌≡◌, ◌++◌, ℕ, List, drop}
use Rattle.smk_base.specs.declared.tree.Amount.{Amount}
use Rattle.smk_pick.specs.declared.room.Ask.{Ask}
use Rattle.smk_pick.specs.Shares.{Holds}
use Rattle.smk_pick.specs.Picks.{starts}
use Rattle.smk_pick.proofs.choice.start_all.Given as goal

abbrev pub invariant-loop-rank : goal.invariant-loop-rank
invariant-loop-rank l =
    (cores : ℕ) (bounds : List Amount) (taken : List Ask) → Holds cores bounds l.initial.left taken →
    (now : List Ask) × Holds cores bounds l.left now
    × (l.picked ++ starts cores bounds l.asks now (drop l.rank-index l.ranks) ≡ starts cores bounds l.asks taken l.ranks)
