use Rattle.std.proofs.Common.{◌≡◌, take}
use Rattle.smk_flow.specs.Lent.{pairs_lent}
use Rattle.smk_flow_jobs.proofs.sorted.copies.Given as goal

abbrev pub invariant-loop-pair : goal.invariant-loop-pair
invariant-loop-pair l = l.made ≡ pairs_lent (take l.pair-index l.pairs)
