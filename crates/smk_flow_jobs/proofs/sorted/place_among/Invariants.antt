use Rattle.std.proofs.Common.{◌≡◌, ◌+◌, drop}
use Rattle.smk_flow.specs.Lent.{pairs_lent, place_among}
use Rattle.smk_flow_jobs.proofs.sorted.place_among.Given as goal

abbrev pub invariant-loop-at : goal.invariant-loop-at
invariant-loop-at l = place_among l.pair (pairs_lent l.sorted) ≡ l.at + place_among l.pair (pairs_lent (drop l.at l.sorted))
