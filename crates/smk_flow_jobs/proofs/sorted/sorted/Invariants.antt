use Rattle.std.proofs.Common.{◌≡◌, ◌≤◌, drop, length}
use Rattle.smk_pattern.specs.Reading.{by_name}
use Rattle.smk_flow.specs.Lent.{pairs_lent}
use Rattle.smk_flow_jobs.proofs.sorted.sorted.Given as goal

abbrev pub invariant-pairs : goal.invariant-pairs
invariant-pairs l = record {
  made : pairs_lent l.sorted.items ≡ by_name (drop l.at l.pairs);
  within : l.at ≤ length l.pairs;
}

abbrev pub decreases-pairs : goal.decreases-pairs
decreases-pairs l = l.at
