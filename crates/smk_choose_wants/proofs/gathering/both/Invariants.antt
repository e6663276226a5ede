use Rattle.std.proofs.Common.{◌≡◌, ◌++◌, take}
use Rattle.smk_choose_wants.proofs.gathering.both.Given as goal

abbrev pub invariant-loop-pair : goal.invariant-loop-pair
invariant-loop-pair l = l.made ≡ l.initial.made ++ take l.pair-index l.more
