use Rattle.std.proofs.Common.{◌≡◌, drop}
use Rattle.smk_choose.specs.Decided.{leader_from, goes_before}
use Rattle.smk_choose.proofs.decide.leader.Given as goal

abbrev pub invariant-loop-at : goal.invariant-loop-at
invariant-loop-at l =
    leader_from (goes_before l.flow l.rules) l.all 0 l.all ≡ leader_from (goes_before l.flow l.rules) l.all l.at (drop l.at l.all)
